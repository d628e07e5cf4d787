-- The line of a refusal, put together, and copied to the front of what is lent.
-- Assumes nothing.
use Rattle.std.proofs.Common.{ℕ, ◌≡◌, ap, ◌∙◌, List, [], ◌∷◌, ◌++◌, append-nil, length, drop, length-append, arith}
use Rattle.columns.specs.Fields.{columns}
use Rattle.columns.specs.Writing.{written}
use Rattle.columns.proofs.Columns.{length_columns}
use Rattle.reply.specs.Refused.{refused_word, refused_line}

pub told : (k : ℕ) (y : List ℕ) → y ≡ written (32 ∷ 32 ∷ 32 ∷ 32 ∷ 32 ∷ 48 ∷ 10 ∷ []) (columns k) → refused_word ++ (y ++ []) ≡ refused_line k
unfolding refused_line written
told k y e = ap (refused_word ++◌) (append-nil y ∙ (rw (length_columns k) at e))

pub length_line : (k : ℕ) → length (refused_line k) ≡ 14
unfolding refused_line
length_line k = omega (arith, length-append (columns k) (10 ∷ []), length_columns k)

-- copied to the front of what is lent
pub copied : (d front line : List ℕ) (k : ℕ) → line ≡ refused_line k → front ≡ line → front ++ drop 14 d ≡ written d (refused_line k)
unfolding written
copied d front line k e c = rw (length_line k, c, e)
