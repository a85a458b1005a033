-- Distances as the 64-bit numbers that stand for them in the work area, and rows of them one behind the other.
use Rattle.std.specs.Prelude.{◌≡◌, refl, List, [], ◌∷◌, ◌++◌, map, ℕ, zero, suc, ◌<◌, ℤ, length}
use Rattle.std.proofs.Common.{arith}
use Rattle.lines.specs.Line.{number}
use Rattle.steps.specs.declared.Step.{Step}
use Rattle.theory_walks.specs.Distance.{Distance}
use Rattle.theory_walks.specs.Row.{at, row_at}
use Rattle.theory_bounds.specs.Answers.{greatest_of}

-- no walk: the highest number, as for a greatest value that is absent
abbrev pub stored : Distance → ℤ
stored d = greatest_of d

abbrev pub stored_row : List Distance → List ℤ
stored_row row = map stored row

pub stored_at : (row : List Distance) (p : ℕ) → p < length row → number (stored_row row) p ≡ stored (at row p)
stored_at [] p h = absurd (omega arith)
stored_at (d ∷ row) zero h = refl
stored_at (d ∷ row) (suc p) h = stored_at row p (omega arith)

-- rows 0 to k - 1 of the source u
unfoldable pub stored_rows : List Step → ℕ → ℕ → ℕ → List ℤ
stored_rows E N u zero = []
stored_rows E N u (suc k) = stored_rows E N u k ++ stored_row (row_at E N u k)
