-- Laws of products over ℤ: they distribute over sums, negation and differences, and associate.
use Rattle.std.specs.Prelude.{◌≡◌, ℕ, zero, suc, ℤ, pos, negsuc, neg_ℤ, ◌+ℤ◌, ◌-ℤ◌, ◌*ℤ◌}
use Rattle.std.proofs.Common.{sym, ap, ap₂, ◌∙◌, arith}
use Rattle.std.proofs.Math.IntN.{suc_ℤ, pred_ℤ, suc_ℤ-+ℤ, pred_ℤ-+ℤ, suc_ℤ-*ℤ, pred_ℤ-*ℤ, zero-*ℤ}
use Rattle.integers.proofs.Linear.{ints}

-- what holds of 0, and with each number of the next and of the one before, holds of all
module _ (P : ℤ → Type 0) (base : P (pos 0)) (up : (z : ℤ) → P z → P (suc_ℤ z)) (down : (z : ℤ) → P z → P (pred_ℤ z)) where
  rise : (n : ℕ) → P (pos n)
  rise zero = base
  rise (suc n) = up (pos n) (rise n)

  fall : (n : ℕ) → P (negsuc n)
  fall zero = down (pos 0) base
  fall (suc n) = down (negsuc n) (fall n)

  every : (z : ℤ) → P z
  every (pos n) = rise n
  every (negsuc n) = fall n

pub sum_times : (a b c : ℤ) → (a +ℤ b) *ℤ c ≡ a *ℤ c +ℤ b *ℤ c
sum_times a b c = every (λ z. (z +ℤ b) *ℤ c ≡ z *ℤ c +ℤ b *ℤ c) base up down a
  where
    zero_plus : (x : ℤ) → pos 0 +ℤ x ≡ x
    zero_plus x = simp ints (omega arith)

    shift : (p q r : ℤ) → (p +ℤ q) +ℤ r ≡ (p +ℤ r) +ℤ q
    shift p q r = simp ints (omega arith)

    shift_down : (p q r : ℤ) → (p +ℤ q) -ℤ r ≡ (p -ℤ r) +ℤ q
    shift_down p q r = simp ints (omega arith)

    base : (pos 0 +ℤ b) *ℤ c ≡ pos 0 *ℤ c +ℤ b *ℤ c
    base = ap (λ (z : ℤ). z *ℤ c) (zero_plus b) ∙ sym (ap (λ (z : ℤ). z +ℤ b *ℤ c) (zero-*ℤ c) ∙ zero_plus (b *ℤ c))

    up : (z : ℤ) → (z +ℤ b) *ℤ c ≡ z *ℤ c +ℤ b *ℤ c → (suc_ℤ z +ℤ b) *ℤ c ≡ suc_ℤ z *ℤ c +ℤ b *ℤ c
    up z e =
        ap (λ (y : ℤ). y *ℤ c) (suc_ℤ-+ℤ z b)
        ∙ suc_ℤ-*ℤ (z +ℤ b) c
        ∙ ap (λ (y : ℤ). y +ℤ c) e
        ∙ shift (z *ℤ c) (b *ℤ c) c
        ∙ ap (λ (y : ℤ). y +ℤ b *ℤ c) (sym (suc_ℤ-*ℤ z c))

    down : (z : ℤ) → (z +ℤ b) *ℤ c ≡ z *ℤ c +ℤ b *ℤ c → (pred_ℤ z +ℤ b) *ℤ c ≡ pred_ℤ z *ℤ c +ℤ b *ℤ c
    down z e =
        ap (λ (y : ℤ). y *ℤ c) (pred_ℤ-+ℤ z b)
        ∙ pred_ℤ-*ℤ (z +ℤ b) c
        ∙ ap (λ (y : ℤ). y -ℤ c) e
        ∙ shift_down (z *ℤ c) (b *ℤ c) c
        ∙ ap (λ (y : ℤ). y +ℤ b *ℤ c) (sym (pred_ℤ-*ℤ z c))

pub neg_times : (a c : ℤ) → neg_ℤ a *ℤ c ≡ neg_ℤ (a *ℤ c)
neg_times a c = only (a *ℤ c) (neg_ℤ a *ℤ c) (sym (sum_times a (neg_ℤ a) c) ∙ ap (λ (z : ℤ). z *ℤ c) (cancel a) ∙ zero-*ℤ c)
  where
    cancel : (x : ℤ) → x +ℤ neg_ℤ x ≡ pos 0
    cancel x = simp ints (omega arith)

    only : (x y : ℤ) → x +ℤ y ≡ pos 0 → y ≡ neg_ℤ x
    only x y = simp ints (omega arith)

pub difference_times : (a b c : ℤ) → (a -ℤ b) *ℤ c ≡ a *ℤ c -ℤ b *ℤ c
difference_times a b c = sum_times a (neg_ℤ b) c ∙ ap (λ (z : ℤ). a *ℤ c +ℤ z) (neg_times b c)

pub times_assoc : (k : ℕ) (a c : ℤ) → (pos k *ℤ a) *ℤ c ≡ pos k *ℤ (a *ℤ c)
times_assoc zero a c = ap (λ (z : ℤ). z *ℤ c) (zero-*ℤ a) ∙ zero-*ℤ c ∙ sym (zero-*ℤ (a *ℤ c))
times_assoc (suc k) a c =
    ap (λ (z : ℤ). z *ℤ c) (suc_ℤ-*ℤ (pos k) a)
    ∙ sum_times (pos k *ℤ a) a c
    ∙ ap (λ (z : ℤ). z +ℤ a *ℤ c) (times_assoc k a c)
    ∙ sym (suc_ℤ-*ℤ (pos k) (a *ℤ c))

pub times_sum : (k : ℕ) (x y : ℤ) → pos k *ℤ (x +ℤ y) ≡ pos k *ℤ x +ℤ pos k *ℤ y
times_sum zero x y = zero-*ℤ (x +ℤ y) ∙ sym (ap₂ (λ (p q : ℤ). p +ℤ q) (zero-*ℤ x) (zero-*ℤ y))
times_sum (suc k) x y =
    suc_ℤ-*ℤ (pos k) (x +ℤ y)
    ∙ ap (λ (z : ℤ). z +ℤ (x +ℤ y)) (times_sum k x y)
    ∙ regroup (pos k *ℤ x) (pos k *ℤ y) x y
    ∙ sym (ap₂ (λ (p q : ℤ). p +ℤ q) (suc_ℤ-*ℤ (pos k) x) (suc_ℤ-*ℤ (pos k) y))
  where
    regroup : (p q x y : ℤ) → (p +ℤ q) +ℤ (x +ℤ y) ≡ (p +ℤ x) +ℤ (q +ℤ y)
    regroup p q x y = simp ints (omega arith)
