-- Laws of the test for equality, and of tests together.
use Rattle.std.specs.Prelude.{◌≡◌, refl, Bool, true, false, ◌&&◌, ℕ, T, ℤ, pos, negsuc}
use Rattle.std.proofs.Common.{sym, ap, subst, ◌∙◌, arith, eq-eqb, eqb→eq}
use Rattle.integers.specs.Integer.{eq_z}

pub eq_z→eq : (a b : ℤ) → T (eq_z a b) → a ≡ b
eq_z→eq (pos a) (pos b) t = ap pos (eqb→eq a b t)
eq_z→eq (pos a) (negsuc b) t = absurd t
eq_z→eq (negsuc a) (pos b) t = absurd t
eq_z→eq (negsuc a) (negsuc b) t = ap negsuc (eqb→eq a b t)

pub eq_eq_z : (a b : ℤ) → a ≡ b → eq_z a b ≡ true
eq_eq_z a b e = subst (λ (z : ℤ). eq_z a z ≡ true) e (same a)
  where
    same : (a : ℤ) → eq_z a a ≡ true
    same (pos n) = eq-eqb n n refl
    same (negsuc n) = eq-eqb n n refl

pub eq_z_true : (a b : ℤ) → eq_z a b ≡ true → a ≡ b
eq_z_true a b e = eq_z→eq a b (subst T (sym e) tt)

pub ne_eq_z : (a b : ℤ) → (a ≡ b → ⊥) → eq_z a b ≡ false
ne_eq_z a b n = go (eq_z a b) refl
  where
    go : (t : Bool) → eq_z a b ≡ t → t ≡ false
    go true e = absurd (n (eq_z_true a b e))
    go false e = refl

-- two cases of an enum are never equal: `never (cc)`
pub never : {A : Type 0} → ◌≡◌ {A = ℕ} 0 1 → A
never e = absurd (omega arith)

pub and_true : (a b : Bool) → (a && b) ≡ true → (a ≡ true) × (b ≡ true)
and_true true b e = (refl, e)
and_true false b e = absurd (subst T (sym e) tt)

pub both_true : (a b : Bool) → a ≡ true → b ≡ true → (a && b) ≡ true
both_true a b p q = ap (λ (t : Bool). t && b) p ∙ q
