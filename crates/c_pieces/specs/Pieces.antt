-- A refutation that arrives in pieces, as C sees it: what is kept between two numbers, of which every value is defined, and what the three calls return.
use Rattle.std.specs.Prelude.{◌≡◌, refl, Bool, true, false, cond, List, [], ◌∷◌, ℕ, eqb, ℤ}
use Rattle.std.proofs.Common.{ap, ◌∙◌}
use Rattle.check_refutation.specs.declared.Progress.{Progress}
use Rattle.check_refutation.specs.Progress.{start}
use Rattle.check_refutation.specs.Answer.{refutation_answer}
use Rattle.check_pieces.specs.Taken.{take_on_lem, take_all, end_answer}
use Rattle.check_pieces.specs.Cut.{Words}
use Rattle.check_pieces.specs.Cut as cut
use Rattle.c_codes.specs.CheckCode.{check_code_lem}
use Rattle.c_pieces.specs.declared.Kept.{Kept}

-- ---- what is kept
-- good is 1 as long as nothing was wrong; every other number says that something was
abbrev pub progress_of_lem : Kept → Progress
progress_of_lem k =
    record { read = k.read; kind = k.kind; p = k.p; q = k.q; u = k.u; here = k.here; first = k.first; second = k.second; good = eqb k.good 1; wrong = k.wrong }

abbrev pub good_number_lem : Bool → ℕ
good_number_lem t = cond t 1 0

abbrev pub kept_of_lem : Progress → Kept
kept_of_lem s =
    record { read = s.read; kind = s.kind; p = s.p; q = s.q; u = s.u; here = s.here; first = s.first; second = s.second; good = good_number_lem s.good; wrong = s.wrong }

-- nothing is lost between two calls
pub kept_progress : (s : Progress) → progress_of_lem (kept_of_lem s) ≡ s
kept_progress s = ap (λ (t : Bool). record { read = s.read; kind = s.kind; p = s.p; q = s.q; u = s.u; here = s.here; first = s.first; second = s.second; good = t; wrong = s.wrong }) (go s.good)
  where
    go : (t : Bool) → eqb (good_number_lem t) 1 ≡ t
    go true = refl
    go false = refl

-- ---- what the calls return
abbrev pub refutation_begin : Kept
refutation_begin = kept_of_lem start

abbrev pub refutation_take : List ℤ → Kept → ℕ → Kept
refutation_take L k r = kept_of_lem (take_on_lem L (progress_of_lem k) r)

abbrev pub refutation_end : ℕ → List ℤ → Kept → ℤ
refutation_end n L k = check_code_lem (end_answer n L (progress_of_lem k))

-- one call for each number
unfoldable pub take_each : List ℤ → Kept → List ℕ → Kept
take_each L k [] = k
take_each L k (r ∷ R) = take_each L (refutation_take L k r) R

pub each_taken : (L : List ℤ) (k : Kept) (R : List ℕ) → progress_of_lem (take_each L k R) ≡ take_all L (progress_of_lem k) R
unfolding take_each take_all
each_taken L k [] = refl
each_taken L k (r ∷ R) = each_taken L (refutation_take L k r) R ∙ ap (λ (s : Progress). take_all L s R) (kept_progress (take_on_lem L (progress_of_lem k) r))

-- all numbers taken by such calls, the end returns what the check of the whole answers
pub each_answered : (n : ℕ) (L : List ℤ) (R : List ℕ) → Words R → refutation_end n L (take_each L refutation_begin R) ≡ check_code_lem (refutation_answer n L R)
each_answered n L R w =
    ap (λ (s : Progress). check_code_lem (end_answer n L s)) (each_taken L refutation_begin R ∙ ap (λ (s : Progress). take_all L s R) (kept_progress start))
    ∙ ap check_code_lem (cut.whole n L R w)
