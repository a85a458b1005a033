-- `session_state::fit_all` meets its contract.
use mathlib.Core.Path.{◌≡◌, refl, sym, ap, ◌∙◌}
use mathlib.Core.Bool.{Bool, true, false, ◌&&◌}
use mathlib.Core.List.{List, [], ◌∷◌}
use Prim.Native.Nat.{ℕ, zero, suc, ◌<◌}
use native.Mathlib.Omega.{arith}
use borrow.Author.Rules.{rules}
use lib.IntN.{ℤ, pos}
use lib.ListN.{length}
use Rattle.std.specs.Bool.{MatchBool}
use Rattle.std.specs.List.{AllWithin, HoldsAt}
use Rattle.std.proofs.lemmas.Iterator.{cases_from_all, YieldsList-from_slice}
use Rattle.integers.specs.Laws.{both_true}
use Rattle.session_state.specs.State.{fits32, fit_all_lem}
use Rattle.session_state.proofs.fit_all.Goals as goal

all_true : (zs : List ℤ) → AllWithin (λ z. fits32 z ≡ true) zs 0 (length zs) → fit_all_lem zs ≡ true
unfolding fit_all_lem
all_true [] h = refl
all_true (z ∷ zs) h = both_true (fits32 z) (fit_all_lem zs) (h 0 (pos 0) (omega arith) (omega arith)) (all_true zs (λ k d l m. h (suc k) d (omega arith) (omega arith)))

one_false : (zs : List ℤ) (k : ℕ) → k < length zs → HoldsAt (λ z. fits32 z ≡ false) zs k → fit_all_lem zs ≡ false
unfolding fit_all_lem
one_false [] k l h = absurd (omega arith)
one_false (z ∷ zs) zero l h = ap (λ (t : Bool). t && fit_all_lem zs) (h (pos 0))
one_false (z ∷ zs) (suc k) l h = ap (λ (t : Bool). fits32 z && t) (one_false zs k (omega arith) h) ∙ none (fits32 z)
  where
    none : (t : Bool) → (t && false) ≡ false
    none true = refl
    none false = refl

decided : (zs : List ℤ) (r : Bool) → MatchBool r (AllWithin (λ z. fits32 z ≡ true) zs 0 (length zs)) ((k : ℕ) × (k < length zs) × HoldsAt (λ z. fits32 z ≡ false) zs k) → r ≡ fit_all_lem zs
decided zs true h = sym (all_true zs h)
decided zs false h = sym (one_false zs h.0 h.1 h.2)

pub returns : goal.returns
returns c =
    let numbers = c.args.numbers.now in
    decided numbers c.all.result
    (cases_from_all _ _ _ (λ z. fits32 z ≡ true) (λ z. fits32 z ≡ false) c.all.ensures.ran (YieldsList-from_slice numbers (cc)) (λ x q k. search rules) (λ x q k. search rules))
