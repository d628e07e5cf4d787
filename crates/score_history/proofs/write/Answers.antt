-- What is asked of the family holds as none of 6 to 13 applies; the lines of the history are told from what the report and the table were written from
-- (proofs/Telling).
-- Assumes nothing.
use Rattle.family.proofs.Reports.{admitted, is_source, whole_ready}
use Rattle.score_history.proofs.Telling.{tabled, room, with_history}
use Rattle.score_history.proofs.write.Goals as goal

pub source_of-source-requires : goal.source_of-source-requires
source_of-source-requires c = whole_ready c.args.network _ _ c.requires.sized c.requires.passed _ c.build_into.ensures

pub append-requires : goal.append-requires
append-requires c =
    let ok = admitted c.args.network _ _ c.requires.sized c.requires.passed in
    let S = is_source _ _ c.source_of-source.result c.source_of-source.ensures c.build_into.ensures in
    (tabled _ _ S ok _ _ _ _ _ c.write_from-bytes.ensures, room _ _ S ok _ _ _ _ _ c.write_from-bytes.ensures c.requires.room)

pub returns : goal.returns
returns c =
    let ok = admitted c.args.network _ _ c.requires.sized c.requires.passed in
    let S = is_source _ _ c.source_of-source.result c.source_of-source.ensures c.build_into.ensures in
    with_history _ _ S ok _ _ _ _ _ c.write_from-bytes.ensures c.append.ensures.0 c.append.ensures.1
