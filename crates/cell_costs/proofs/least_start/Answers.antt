-- `cell_costs::least_start` meets its contract. The words of gene 1 are the first of the scratch.
-- Assumes nothing.
use Rattle.std.proofs.Common.{◌≡◌, ◌∙◌, ℕ, List, take, min, sym, ap, arith}
use Rattle.std.specs.Prelude.{Option}
use Rattle.std.specs.List.{reduce}
use Rattle.std.specs.Option.{unwrap_or}
use Rattle.std.proofs.lemmas.Iterator.{YieldsList-from_slice}
use Rattle.std.proofs.lemmas.Iterator.Adapters.{option_map_id}
use Rattle.std.proofs.lemmas.Iterator.Consumers.{YieldsList-from_copied, min_from_yields_List}
use Rattle.histories.specs.Words.{no_history, cost_of}
use Rattle.cell_costs.proofs.Starts.{least_words}
use Rattle.cell_costs.proofs.least_start.Goals as goal

pub returns : goal.returns
returns c =
    let words : List ℕ = take c.args.n c.args.scratch.now in
    let least : c.min.result ≡ reduce min words = sym (option_map_id c.min.result)
    ∙ min_from_yields_List _ _ c.min.ensures.ran (YieldsList-from_copied (YieldsList-from_slice words (rw c.copied.ensures.source c.iter.ensures.rest))) in
    ap cost_of (c.unwrap_or.ensures ∙ ap (λ (o : Option ℕ). unwrap_or o no_history) least) ∙ least_words _ _ _ c.requires (λ i. omega (arith, c.type_inv.scratch i))
