-- No history costs much: the steps that cost are at most the gene's size times the nodes below and one, for a child's steps lie below its parent's.
-- Assumes nothing.
use Rattle.std.proofs.Common.{◌≡◌, ◌⊎◌, inl, inr, ℕ, suc, ◌+◌, ◌*◌, ◌≤◌, ◌<◌, mul-le-mul_left, mul-le-mul_right, mul-le-mul, mul-suc, suc-mul, add-mul, mul-add, le_trans, arith}
use mathlib.Core.Option.{some}
use Rattle.reconciliation.specs.Limits.{Limits}
use Rattle.histories.specs.Histories.{pair, Family, least}
use Rattle.histories.specs.Histories.{History, rest, duplicate, speciate, speciate_lose, transfer_stay, transfer_part, transfer_lose, pass, cost}
use Rattle.histories.specs.inner.Grades.{Graded}
use Rattle.histories.proofs.Costs.{reach}
use Rattle.histories.proofs.Least.{one_end, two_ends, mixed_ends, least_sound}

module _ (F : Family) where
  open F use {out, gene, costs}
  open costs use {duplication, transfer, loss}

  -- the steps of a history that may cost
  steps : {g v : ℕ} → History F g v → ℕ
  steps (rest k a) = 0
  steps (duplicate k h i) = suc (steps h + steps i)
  steps (speciate k a h i) = steps h + steps i
  steps (speciate_lose a h) = suc (steps h)
  steps (transfer_stay k a h i) = suc (steps h + steps i)
  steps (transfer_part k a h i) = suc (steps h + steps i)
  steps (transfer_lose a h) = suc (steps h)
  steps (pass a h) = steps h

  module _ (U : ℕ) (du : duplication ≤ U) (tu : transfer + loss ≤ U) where
    two_more : (s t c d x : ℕ) → c ≤ U * s → d ≤ U * t → x ≤ U → x + c + d ≤ U * suc (s + t)
    two_more s t c d x h i j = omega (arith, mul-suc U (s + t), mul-add U s t)

    one_more : (s c x : ℕ) → c ≤ U * s → x ≤ U → x + c ≤ U * suc s
    one_more s c x h j = omega (arith, mul-suc U s)

    by_steps : {g v : ℕ} (h : History F g v) → cost F h ≤ U * steps h
    unfolding cost steps
    by_steps (rest k a) = omega arith
    by_steps (duplicate k h i) = two_more (steps h) (steps i) _ _ duplication (by_steps h) (by_steps i) du
    by_steps (speciate k a h i) = omega (arith, mul-add U (steps h) (steps i), by_steps h, by_steps i)
    by_steps (speciate_lose a h) = one_more (steps h) _ loss (by_steps h) (omega arith)
    by_steps (transfer_stay k a h i) = two_more (steps h) (steps i) _ _ transfer (by_steps h) (by_steps i) (omega arith)
    by_steps (transfer_part k a h i) = two_more (steps h) (steps i) _ _ transfer (by_steps h) (by_steps i) (omega arith)
    by_steps (transfer_lose a h) = one_more (steps h) _ (transfer + loss) (by_steps h) tu
    by_steps (pass a h) = by_steps h

  module _ (ok : Graded F) where
    open ok use {height, size}

    -- two children, at nodes that are not higher than v
    apart : (g a b s t x y v : ℕ) → size a + size b < size g → s ≤ size a * suc x → t ≤ size b * suc y → x ≤ v → y ≤ v → suc (s + t) ≤ size g * suc v
    apart g a b s t x y v l p q h i = omega (arith, mul-le-mul_right (suc v) l, suc-mul (size a + size b) (suc v), add-mul (size a) (size b) (suc v), mul-le-mul_left (size a) (suc_le h), mul-le-mul_left (size b) (suc_le i))
      where
        suc_le : {c d : ℕ} → c ≤ d → suc c ≤ suc d
        suc_le h = omega arith

    -- the gene itself, at a lower node
    down : (g s x v : ℕ) → s ≤ size g * suc x → x < v → suc s ≤ size g * suc v
    down g s x v p h = omega (arith, ok.size_low g, mul-suc (size g) (suc x), mul-le-mul_left (size g) (more h))
      where
        more : {c d : ℕ} → c < d → suc (suc c) ≤ suc d
        more h = omega arith

    splits_either : {g a b : ℕ} → (gene g ≡ pair a b) ⊎ (gene g ≡ pair b a) → size a + size b < size g
    splits_either {g} {a} {b} (inl k) = ok.splits g a b k
    splits_either {g} {a} {b} (inr k) = omega (arith, ok.splits g b a k)

    few_steps : {g v : ℕ} (h : History F g v) → steps h ≤ size g * suc (height v)
    unfolding steps
    few_steps (rest k a) = omega arith
    few_steps {g} {v} (duplicate {a} {b} k h i) = apart g a b (steps h) (steps i) (height v) (height v) (height v) (splits_either (inl k)) (few_steps h) (few_steps i) (omega arith) (omega arith)
    few_steps {g} {v} (speciate {a} {b} {x} {y} k e h i) =
        let f = two_ends F ok e in let q = apart g a b (steps h) (steps i) (height x) (height y) (height v) (splits_either k) (few_steps h) (few_steps i) (omega arith) (omega arith) in omega arith
    few_steps {g} {v} (speciate_lose {x} (inl e) h) = let f = two_ends F ok e in down g (steps h) (height x) (height v) (few_steps h) (omega arith)
    few_steps {g} {v} (speciate_lose {x} (inr e) h) = let f = two_ends F ok e in down g (steps h) (height x) (height v) (few_steps h) (omega arith)
    few_steps {g} {v} (transfer_stay {a} {b} {y} k e h i) = let f = mixed_ends F ok e in apart g a b (steps h) (steps i) (height y) (height v) (height v) (splits_either k) (few_steps h) (few_steps i) (omega arith) (omega arith)
    few_steps {g} {v} (transfer_part {a} {b} {x} {y} k e h i) = let f = mixed_ends F ok e in apart g a b (steps h) (steps i) (height y) (height x) (height v) (splits_either k) (few_steps h) (few_steps i) (omega arith) (omega arith)
    few_steps {g} {v} (transfer_lose {y} e h) = let f = mixed_ends F ok e in down g (steps h) (height y) (height v) (few_steps h) (omega arith)
    few_steps {g} {v} (pass {x} (inl e) h) = let f = one_end F ok e in let q = down g (steps h) (height x) (height v) (few_steps h) (omega arith) in omega arith
    few_steps {g} {v} (pass {x} (inr e) h) = let f = mixed_ends F ok e.1 in let q = down g (steps h) (height x) (height v) (few_steps h) (omega arith) in omega arith

    cost_bound : (U : ℕ) → duplication ≤ U → transfer + loss ≤ U → {g v : ℕ} (h : History F g v) → cost F h ≤ U * (size g * suc (height v))
    cost_bound U du tu h = le_trans (by_steps U du tu h) (mul-le-mul_left U (few_steps h))

    -- within the limits of 01 a least cost is far below the word for no history
    pub least_bound : Limits F.nodes F.genes F.costs → (g v c : ℕ) → least F g v ≡ some c → c ≤ 3244032
    least_bound lim g v c e =
        let q = reach (least_sound F ok g v) c e in
        let w = cost_bound 198 (omega (arith, lim.duplication)) (omega (arith, lim.transfer, lim.loss)) q.0 in
        let y : size g * suc (height v) ≤ 128 * 128 = mul-le-mul {n₂ = 128} {m₂ = 128} (omega (arith, ok.size_le g)) (omega (arith, ok.height_le v)) in
        omega (arith, q.1)
