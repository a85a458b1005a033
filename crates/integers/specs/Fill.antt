-- A lent list that is filled from the front with a function's values, one after the other; what lies behind is as it was.
use Rattle.std.specs.Prelude.{◌≡◌, refl, List, [], ◌∷◌, ◌++◌, ℕ, ◌+◌, ◌<◌, length, set, drop}
use Rattle.std.proofs.Common.{sym, ap, ◌∙◌, arith}
use Rattle.integers.specs.Sequence.{tabulate, tabulate_add, length_tabulate, grow}

module _ {A : Type 0} where
  -- the first i values are written
  abbrev pub filled : (ℕ → A) → List A → ℕ → List A
  filled f d i = tabulate i f ++ drop i d

  pub filled_none : (f : ℕ → A) (d : List A) → d ≡ filled f d 0
  filled_none f d = refl

  tabulate_more : (f : ℕ → A) (i : ℕ) → tabulate (i + 1) f ≡ tabulate i f ++ f i ∷ []
  tabulate_more f i = let z : i + 0 ≡ i = omega arith in tabulate_add i 1 f ∙ ap (λ (k : ℕ). tabulate i f ++ f k ∷ []) z

  pub filled_more : (f : ℕ → A) (d : List A) (i : ℕ) (v : A) → i < length d → v ≡ f i → set (filled f d i) i v ≡ filled f d (i + 1)
  filled_more f d i v h e =
      ap (set (filled f d i) i) e
      ∙ grow (tabulate i f) i (f i) v d (length_tabulate i f) h
      ∙ ap (λ (l : List A). l ++ drop (i + 1) d) (sym (tabulate_more f i))
