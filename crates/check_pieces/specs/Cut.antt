-- A checker stopped after any number goes on to the same answer, from the list, the numbers not yet read and what was kept.
use Rattle.lines.specs.declared.Refusal.{Refusal}
use Rattle.std.specs.Prelude.{◌≡◌, Bool, cond, ℕ, zero, suc, ◌+◌, ◌^◌, ◌<◌, ◌≤◌, ℤ, length, get_or, Err, Ok, Result}
use Rattle.std.proofs.Math.Path.{refl}
use Rattle.std.proofs.Common.{sym, ap, ◌∙◌, arith}
use Rattle.std.proofs.Math.Bool.{true, false}
use mathlib.Core.List.{List, [], ◌∷◌, ◌++◌}
use borrow.Author.Tests.{lt-ltb, le-ltb, ltb-true, ltb-false}
use Rattle.std.proofs.Math.Dec.{ltb}
use Rattle.lines.specs.declared.Refusal.TheVariants.{LongRefutation}
use Rattle.lines.specs.Limits.{max_refutation}
use Rattle.lines.specs.Refusal.{◌or_else◌, refuse_if, validity_of}
use Rattle.check_answers.specs.declared.CheckAnswer.TheVariants.{No}
use Rattle.check_answers.specs.Answer.{unless_refused}
use Rattle.check_refutation.specs.declared.Progress.{Progress}
use Rattle.check_refutation.specs.Progress.{start, advance, run}
use Rattle.check_refutation.specs.Small.{Small, start_small, advance_small, advance_read}
use Rattle.check_refutation.specs.Answer.{verdict, refutation_validity, refutation_answer}
use Rattle.check_pieces.specs.Taken.{valid_weight, is_small_lem, take_on_lem, take_all, end_answer, valid_names, named_light, test_small}

-- ---- pieces, of any list and from any state
pub take_append : (L : List ℤ) (s : Progress) (A B : List ℕ) → take_all L s (A ++ B) ≡ take_all L (take_all L s A) B
unfolding take_all
take_append L s [] B = refl
take_append L s (r ∷ A) B = take_append L (take_on_lem L s r) A B

pub take_snoc : (L : List ℤ) (s : Progress) (R : List ℕ) (r : ℕ) → take_all L s (R ++ r ∷ []) ≡ take_on_lem L (take_all L s R) r
unfolding take_all
take_snoc L s R r = take_append L s R (r ∷ [])

-- stopped and resumed after each piece
abbrev pub take_pieces : List ℤ → Progress → List (List ℕ) → Progress
take_pieces L s [] = s
take_pieces L s (P ∷ Ps) = take_pieces L (take_all L s P) Ps

abbrev pub joined : List (List ℕ) → List ℕ
joined [] = []
joined (P ∷ Ps) = P ++ joined Ps

pub take_joined : (L : List ℤ) (s : Progress) (Ps : List (List ℕ)) → take_pieces L s Ps ≡ take_all L s (joined Ps)
unfolding take_all
take_joined L s [] = refl
take_joined L s (P ∷ Ps) = take_joined L (take_all L s P) Ps ∙ sym (take_append L s P (joined Ps))

-- ---- the whole
-- numbers of 32 bits
abbrev pub Words : List ℕ → Type 0
Words [] = Unit {0}
Words (r ∷ R) = (r < 2 ^ 32) × Words R

-- also the 0 beyond
pub words_at : (R : List ℕ) → Words R → (i : ℕ) → get_or R i 0 < 2 ^ 32
words_at [] w i = omega arith
words_at (r ∷ R) w zero = w.0
words_at (r ∷ R) w (suc i) = words_at R w.1 i

pub words_snoc : (R : List ℕ) (r : ℕ) → Words R → r < 2 ^ 32 → Words (R ++ r ∷ [])
words_snoc [] r w h = (h, tt)
words_snoc (x ∷ R) r w h = (w.0, words_snoc R r w.1 h)

module _ (n : ℕ) (L : List ℤ) (v : validity_of n L ≡ Ok tt) where
  -- where there is room, the checker's own step is taken
  take_is : (s : Progress) (r : ℕ) → Small valid_weight s → s.read < max_refutation → take_on_lem L s r ≡ advance L s r
  unfolding take_on_lem
  take_is s r h l = rw (lt-ltb _ _ l, test_small s h, valid_names n L v r)

  next_small : (s : Progress) (r : ℕ) → Small valid_weight s → s.read < max_refutation → r < 2 ^ 32 → Small valid_weight (advance L s r)
  next_small s r h l w = advance_small valid_weight s h l L r (named_light n L v r) w

  -- up to the limit, all numbers are taken by the checker's rule
  pub within_limit : (s : Progress) (R : List ℕ) → Small valid_weight s → s.read + length R ≤ max_refutation → Words R → (take_all L s R ≡ run L s R) × Small valid_weight (take_all L s R)
  unfolding take_all run
  within_limit s [] h l w = (refl, h)
  within_limit s (r ∷ R) h l w =
      let e = take_is s r h (omega arith) in
      let k = within_limit (advance L s r) R (next_small s r h (omega arith) w.0) (omega (arith, advance_read L s r)) w.1 in
      rw e k

  -- past it, that is remembered
  stays_long : (s : Progress) (R : List ℕ) → max_refutation < s.read → max_refutation < (take_all L s R).read
  unfolding take_all take_on_lem
  stays_long s [] h = h
  stays_long s (r ∷ R) h = stays_long (take_on_lem L s r) R (rw (le-ltb s.read max_refutation (omega arith)) (omega arith))

  pub past_limit : (s : Progress) (R : List ℕ) → Small valid_weight s → max_refutation < s.read + length R → Words R → max_refutation < (take_all L s R).read
  unfolding take_all take_on_lem
  past_limit s [] h l w = absurd (omega (arith, h.read))
  past_limit s (r ∷ R) h l w =
      go (ltb s.read max_refutation) refl (λ m. past_limit (advance L s r) R (next_small s r h m w.0) (omega (arith, advance_read L s r)) w.1)
    where
      go : (b : Bool) → ltb s.read max_refutation ≡ b → (s.read < max_refutation → max_refutation < (take_all L (advance L s r) R).read)
          → max_refutation < (take_all L (take_on_lem L s r) R).read
      go true e k =
          let m = ltb-true _ _ e in
          let i = take_is s r h m in
          rw i (k m)
      go false e k = stays_long (take_on_lem L s r) R (rw e (omega arith))

-- whatever the list, the end answers what the checker answers on the whole refutation
pub whole : (n : ℕ) (L : List ℤ) (R : List ℕ) → Words R → end_answer n L (take_all L start R) ≡ refutation_answer n L R
unfolding end_answer refutation_answer refutation_validity
whole n L R w = go (validity_of n L) refl
  where
    go : (u : Result Unit Refusal) → validity_of n L ≡ u
        → unless_refused (u or_else refuse_if (ltb max_refutation (take_all L start R).read) LongRefutation) (Ok (cond (is_small_lem (take_all L start R)) (verdict (take_all L start R)) (No 0)))
        ≡ unless_refused (u or_else refuse_if (ltb max_refutation (length R)) LongRefutation) (Ok (verdict (run L start R)))
    go (Err r) e = refl
    go (Ok _) e = long (ltb max_refutation (length R)) refl
      where
        long : (b : Bool) → ltb max_refutation (length R) ≡ b
            → unless_refused (refuse_if (ltb max_refutation (take_all L start R).read) LongRefutation) (Ok (cond (is_small_lem (take_all L start R)) (verdict (take_all L start R)) (No 0)))
            ≡ unless_refused (refuse_if b LongRefutation) (Ok (verdict (run L start R)))
        long true z = rw (lt-ltb _ _ (past_limit n L e start R (start_small valid_weight) (omega (arith, ltb-true max_refutation (length R) z)) w))
        long false z =
            let k = within_limit n L e start R (start_small valid_weight) (omega (arith, ltb-false max_refutation (length R) z)) w in
            rw (le-ltb _ _ k.1.read, test_small _ k.1, ← k.0)

-- for every cut
pub resumed : (n : ℕ) (L : List ℤ) (A B : List ℕ) → Words (A ++ B) → end_answer n L (take_all L (take_all L start A) B) ≡ refutation_answer n L (A ++ B)
resumed n L A B w = ap (end_answer n L) (sym (take_append L start A B)) ∙ whole n L (A ++ B) w

-- for any number of cuts
pub in_pieces : (n : ℕ) (L : List ℤ) (Ps : List (List ℕ)) → Words (joined Ps) → end_answer n L (take_pieces L start Ps) ≡ refutation_answer n L (joined Ps)
in_pieces n L Ps w = ap (end_answer n L) (take_joined L start Ps) ∙ whole n L (joined Ps) w
