-- What is written for a sheet and a tree as text (02, (i)), as for a sheet (01, first paragraph): "one report, or the word `refused`, the refusal number in six
-- columns and a line feed".
-- Assumes nothing.
use Rattle.std.specs.Prelude.{ℕ, Bool, ◌&&◌, ◌≡◌, ◌≤◌, List, [], ◌∷◌, length, eqb}
use Rattle.std.specs.List.{ends_with}
use Rattle.finite.specs.Tests.{same}
use Rattle.family.specs.Buffers.{least_words, least_bytes}
use Rattle.family.specs.Reports.{report_in}
use Rattle.score_newick.specs.Refusals.{contents_of, refusal}
use Rattle.reply.specs.Replies.{reply_by, Writes, ReadInto}
use Rattle.reply_newick.specs.declared.Reply.{Reply}

-- with buffers that 1 and 2 do not refuse
unfoldable pub reply_of : (sheet text : List ℕ) → List ℕ
reply_of s x = reply_by (refusal s x least_bytes least_words) (report_in (contents_of s x))

-- "a text of at most 574 bytes"
abbrev pub longest_text : ℕ
longest_text = 574

-- the refusal is 14, and the last byte of the text is a line feed
unfoldable pub ends_in_feed : (sheet text : List ℕ) → Bool
ends_in_feed s x = same (refusal s x least_bytes least_words) 14 && ends_with eqb x (10 ∷ [])

-- what is written is the reply to any sheet and any text that were so read into the two rooms; and a line feed is told of where it is theirs
pub record Replied (sheet : List ℕ) (sheet_bytes : ℕ) (tree : List ℕ) (tree_bytes : ℕ) (d e : List ℕ) (r : Reply) : Type 0 where
  pub replies : (s x : List ℕ) → ReadInto sheet sheet_bytes s → ReadInto tree tree_bytes x → Writes (reply_of s x) d e r.bytes
  pub fits : r.bytes ≤ length e
  pub line_feed : (s x : List ℕ) → ReadInto sheet sheet_bytes s → ReadInto tree tree_bytes x → r.line_feed ≡ ends_in_feed s x
