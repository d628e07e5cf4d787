-- What is written for a sheet (01, first paragraph): "one report, or the word `refused`, the refusal number in six columns and a line feed".
-- Assumes nothing.
use Rattle.std.specs.Prelude.{◌≡◌, cond, List, ℕ, ◌+◌, ◌*◌, ◌≤◌, length, take}
use Rattle.finite.specs.Tests.{same}
use Rattle.finite.specs.Refusals.{verdict}
use Rattle.columns.specs.Writing.{written}
use Rattle.text_lines.specs.Lines.{line_length}
use Rattle.family.specs.Families.{Contents}
use Rattle.family.specs.Reports.{report_in}
use Rattle.family.specs.Buffers.{least_words, least_bytes}
use Rattle.score.specs.Contents.{contents_of}
use Rattle.score.specs.Refusals.{refusals_of}
use Rattle.reply.specs.Refused.{refused_line}

-- where refusal k is the first that applies, or, where k is 0, this piece is written
unfoldable pub reply_by : ℕ → (piece : List ℕ) → List ℕ
reply_by k piece = cond (same k 0) piece (refused_line k)

-- of a call on sheets that asks for so many bytes of result at least and writes this piece of what it scores, with buffers that 1 and 2 do not refuse
unfoldable pub reply_with : (least : ℕ) → (piece : Contents → List ℕ) → List ℕ → List ℕ
reply_with least piece s = reply_by (verdict (refusals_of least s least least_words)) (piece (contents_of s))

-- the bytes of the longest sheet that is whole
abbrev pub longest_sheet : ℕ
longest_sheet = line_length * (1 + 127 + 127)

-- a reply is written over the front of d, which becomes e, and has r bytes
pub record Writes (reply d e : List ℕ) (r : ℕ) : Type 0 where
  pub output : e ≡ written d reply
  pub length_is : r ≡ length reply

-- of a text s as much was read into a room as it holds, bytes of it
abbrev pub ReadInto : (room : List ℕ) (bytes : ℕ) (s : List ℕ) → Type 0
ReadInto room bytes s = take (length room) s ≡ take bytes room

-- what is written is the reply to any text that was so read
pub record RepliedWith (least : ℕ) (piece : Contents → List ℕ) (room : List ℕ) (bytes : ℕ) (d e : List ℕ) (r : ℕ) : Type 0 where
  pub replies : (s : List ℕ) → ReadInto room bytes s → Writes (reply_with least piece s) d e r
  pub fits : r ≤ length e

-- of the plain call
abbrev pub Replied : (room : List ℕ) (bytes : ℕ) (d e : List ℕ) (r : ℕ) → Type 0
Replied room bytes d e r = RepliedWith least_bytes report_in room bytes d e r
