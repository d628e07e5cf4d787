-- The lines of one gene. What is written and what the walk has still to say are its lines together (`Walking`): a step more takes the first of those left, and
-- where the gene does not move on none is left.
-- Assumes nothing.
use Rattle.std.proofs.Common.{◌≡◌, refl, sym, ap, ◌∙◌, List, [], ◌∷◌, ◌++◌, append_assoc, append-nil, ℕ, suc, ◌+◌, ◌*◌, ◌≤◌, ◌<◌, arith, add-one, length, length-append, Some, None}
use mathlib.Core.Option.{some}
use Rattle.std.proofs.lemmas.Option.{none-some}
use Rattle.columns.specs.Writing.{put}
use Rattle.columns.proofs.Writing.{put_put}
use Rattle.text_lines.specs.Lines.{line_length, line_of, lines_text}
use Rattle.text_lines.proofs.Lines.{length_lines_text, lines_text_append}
use Rattle.histories.specs.Histories.{Family, least}
use Rattle.histories.specs.inner.Grades.{Graded}
use Rattle.tellings.specs.Steps.{Step, Line, numbered}
use Rattle.tellings.specs.Chosen.{Onward, ends, splits, goes, onward, choice}
use Rattle.tellings.specs.inner.Walks.{MayStart, unless_gone, walk, leave}
use Rattle.tellings.specs.inner.Lineages.{Levels}
use Rattle.tellings.proofs.Walks.{walk_step, leave_step}
use Rattle.tellings.proofs.Listing.{numbered_length}
use Rattle.tellings.proofs.Turns.{Taken, takes_end, takes_parts, takes_move, taken, may_go, walk_length}
use Rattle.history_steps.specs.inner.StepChoices.{step_of, moved_to}
use Rattle.layout.specs.Lines.{nodes_in}
use Rattle.histories.specs.Families.{family_of}
use Rattle.whole_network.specs.declared.source.Source.{Source}
use Rattle.whole_network.specs.inner.Stages.{family}
use Rattle.history_lines.specs.declared.LastStep.{LastStep}
use Rattle.history_lines.specs.inner.Lines.{step_line, StepWritten, WalkWritten}

-- the lines from where a gene moves on
unfoldable pub on : Family → ℕ → Onward → List Line
on F g = unless_gone (λ o. []) (walk F g)

-- gene g started at v; k of its lines are written, the last of them for the step last
pub record Walking (F : Family) (g v : ℕ) (d : List ℕ) (at k : ℕ) (e : List ℕ) (t : LastStep) : Type 0 where
  pub node : ℕ
  pub done : List (List ℕ)
  pub bytes : e ≡ put d at (lines_text done)
  pub next : t.next ≡ at + line_length * k
  pub count : k ≡ length done
  pub may : MayStart F g node
  pub chosen : choice F (least F) g node ≡ some (step_of t.step)
  pub whole : numbered F g 0 (walk F g v) ≡ done ++ numbered F g k (on F g (onward (step_of t.step)))
  pub leaves : leave F g v ≡ unless_gone (λ o. o) (leave F g) (onward (step_of t.step))

-- where a gene moves on, and where it does not
goes_to : (o : Onward) (w : ℕ) → moved_to o ≡ Some w → o ≡ goes w
unfolding moved_to
goes_to ends w e = absurd (none-some w e)
goes_to (splits p q) w e = absurd (none-some w e)
goes_to (goes u) w e = let q : u ≡ w = cc in ap goes q

stays : (F : Family) (g : ℕ) (o : Onward) → moved_to o ≡ None → (on F g o ≡ []) × (unless_gone (λ o. o) (leave F g) o ≡ o)
unfolding moved_to on unless_gone
stays F g ends e = (refl, refl)
stays F g (splits p q) e = (refl, refl)
stays F g (goes u) e = absurd (none-some u (sym e))

module _ (F : Family) (ok : Graded F) (plan : Levels F) (g : ℕ) where
  -- the lines of a step and of what follows it
  lines_from : (k w : ℕ) (s : Step) → choice F (least F) g w ≡ some s → numbered F g k (walk F g w) ≡ step_line F g (suc k) w s ∷ numbered F g (suc k) (on F g (onward s))
  unfolding numbered on
  lines_from k w s is = rw (walk_step F ok g w s is)

  -- a step is taken wherever a gene may start
  pub walk_some : (w : ℕ) → MayStart F g w → 1 ≤ length (walk F g w)
  walk_some w may = by (taken F ok plan g w may)
    where
      by : Taken F ok plan g w → 1 ≤ length (walk F g w)
      by (takes_end s is m o) = rw (walk_step F ok g w s is) (omega arith)
      by (takes_parts s is m n o a b) = rw (walk_step F ok g w s is) (omega arith)
      by (takes_move s is m o a l) = rw (walk_step F ok g w s is) (omega arith)

  module _ (v : ℕ) (d : List ℕ) (at : ℕ) where
    -- the first line
    pub walk_begun : (e : List ℕ) (t : LastStep) → MayStart F g v → StepWritten F g 1 v d at e t → Walking F g v d at 1 e t
    unfolding lines_text
    walk_begun e t may x = record {
      node = v;
      done = step_line F g 1 v (step_of t.step) ∷ [];
      bytes = x.bytes ∙ ap (put d at) (sym (append-nil _));
      next = x.next;
      count = refl;
      may = may;
      chosen = x.chosen;
      whole = lines_from 0 v (step_of t.step) x.chosen;
      leaves = leave_step F ok g v (step_of t.step) x.chosen;
    }

    module _ (k : ℕ) (e : List ℕ) (t : LastStep) (W : Walking F g v d at k e t) where
      module _ (w : ℕ) (moves : moved_to (onward (step_of t.step)) ≡ Some w) where
        gone : onward (step_of t.step) ≡ goes w
        gone = goes_to (onward (step_of t.step)) w moves

        pub may_next : MayStart F g w
        may_next = may_go F ok plan g W.node (step_of t.step) W.may W.chosen gone

        left : numbered F g 0 (walk F g v) ≡ W.done ++ numbered F g k (walk F g w)
        unfolding on unless_gone
        left = rw gone at W.whole

        left_length : length (walk F g v) ≡ k + length (walk F g w)
        left_length = omega (
          arith,
          numbered_length F g 0 (walk F g v),
          ap length left,
          length-append W.done (numbered F g k (walk F g w)),
          numbered_length F g k (walk F g w),
          W.count,
        )

        more : 1 ≤ length (walk F g w)
        more = walk_some w may_next

        -- there is room for the next line, and few lines stand before it
        pub room_next : at + line_length * length (walk F g v) ≤ length d → length e ≡ length d → t.next + line_length ≤ length e
        room_next room q = omega (arith, left_length, more, W.next)

        pub few_before : F.nodes ≤ 127 → MayStart F g v → k + 1 ≤ 128
        few_before n may = omega (arith, left_length, more, walk_length F ok plan g v may)

        module _ (f : List ℕ) (z : LastStep) (x : StepWritten F g (k + 1) w e t.next f z) where
          abbrev this : List ℕ
          this = step_line F g (k + 1) w (step_of z.step)

          pub walk_next : at ≤ length d → Walking F g v d at (k + 1) f z
          unfolding lines_text on unless_gone
          walk_next room = record {
            node = w;
            done = W.done ++ (this ∷ []);
            bytes = x.bytes ∙ rw W.bytes (put_put d at t.next (lines_text W.done) (line_of this) room (omega (arith, W.next, W.count, length_lines_text W.done)))
                ∙ ap (put d at) (sym (lines_text_append W.done (this ∷ []) ∙ ap (λ (l : List ℕ). lines_text W.done ++ l) (append-nil (line_of this))));
            next = omega (arith, x.next, W.next);
            count = omega (arith, W.count, length-append W.done (this ∷ []));
            may = may_next;
            chosen = x.chosen;
            whole = left ∙ ap (λ (l : List (List ℕ)). W.done ++ l) (rw (add-one k) (lines_from k w (step_of z.step) x.chosen)) ∙ sym (append_assoc W.done (this ∷ []) (numbered F g (k + 1) (on F g (onward (step_of z.step)))));
            leaves = W.leaves ∙ ap (unless_gone (λ o. o) (leave F g)) gone ∙ leave_step F ok g w (step_of z.step) x.chosen;
          }

          -- fewer lines are left
          pub fewer : length (on F g (onward (step_of z.step))) < length (on F g (onward (step_of t.step)))
          unfolding on unless_gone
          fewer = rw (gone, walk_step F ok g w (step_of z.step) x.chosen) (omega arith)

      -- where the gene does not move on, all its lines are written
      pub walk_done : moved_to (onward (step_of t.step)) ≡ None → WalkWritten F g v d at e t
      unfolding numbered
      walk_done stay =
          let r = stays F g (onward (step_of t.step)) stay in
          let all : numbered F g 0 (walk F g v) ≡ W.done = W.whole ∙ rw (r.0, append-nil W.done) in
          record {
            node = W.node;
            may = W.may;
            chosen = W.chosen;
            leaves = W.leaves ∙ r.1;
            bytes = rw all W.bytes;
            next = omega (arith, W.next, W.count, ap length all, numbered_length F g 0 (walk F g v));
          }

pub nodes_few : (f : Source) → (family f).nodes ≤ 127
unfolding family_of nodes_in
nodes_few f = f.lines.now.within.few_nodes
