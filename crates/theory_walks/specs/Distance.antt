-- Distances: an integer, or none where there is no walk. Their order, the smaller of two, sums and halves.
-- `Up a z` says that the distance a is at most the integer z, so that `none` needs no case in a proof; `Below v a`, that v is at most a.
use Rattle.std.specs.Prelude.{◌≡◌, refl, ◌⊎◌, Bool, true, false, ℤ, pos, ◌+ℤ◌}
use Rattle.std.proofs.Common.{sym, ap, subst, inl, inr, ⊎_elim, arith}
use Rattle.std.specs.Int.Signed.{le_z}
use Rattle.integers.specs.Integer.{◌⩽◌, ◌⋖◌, half, min_z}
use Rattle.integers.proofs.Linear.{ints}
use Rattle.integers.specs.Laws.{never}

pub data Distance : Type 0 where
  none : Distance
  some : ℤ → Distance

abbrev pub Le : Distance → Distance → Type 0
Le a none = Unit {0}
Le none (some b) = ⊥
Le (some a) (some b) = a ⩽ b

infix 50 ◌⊑◌
-- the order, as a record, so that both ends are inferred
pub record ◌⊑◌ (a b : Distance) : Type 0 where
  pub le : Le a b

-- the smaller of two
abbrev pub min_d : Distance → Distance → Distance
min_d none b = b
min_d (some a) none = some a
min_d (some a) (some b) = some (min_z a b)

infixl 60 ◌⊕◌ ◌⊞◌
-- a distance and a weight
abbrev pub ◌⊕◌ : Distance → ℤ → Distance
none ⊕ w = none
some a ⊕ w = some (a +ℤ w)

-- a distance and a distance
abbrev pub ◌⊞◌ : Distance → Distance → Distance
none ⊞ b = none
some a ⊞ none = none
some a ⊞ some b = some (a +ℤ b)

-- halved toward minus infinity
abbrev pub half_d : Distance → Distance
half_d none = none
half_d (some a) = some (half a)

pub data Up : Distance → ℤ → Type 0 where
  up : {d z : ℤ} → d ⩽ z → Up (some d) z

abbrev pub Below : ℤ → Distance → Type 0
Below v b = (z : ℤ) → Up b z → v ⩽ z

-- ---- integers
pub le_refl : (a : ℤ) → a ⩽ a
le_refl a = simp ints (omega arith)

pub le_trans : {a b c : ℤ} → a ⩽ b → b ⩽ c → a ⩽ c
le_trans {a} {b} {c} = simp ints (omega arith)

pub le_antisym : {a b : ℤ} → a ⩽ b → b ⩽ a → a ≡ b
le_antisym {a} {b} = simp ints (omega arith)

pub le_or : (a b : ℤ) → (a ⩽ b) ⊎ (b ⋖ a)
le_or a b = go (le_z a b) refl
  where
    yes_le : (a b : ℤ) → le_z a b ≡ true → a ⩽ b
    yes_le a b = simp ints (omega arith)

    no_le : (a b : ℤ) → le_z a b ≡ false → b ⋖ a
    no_le a b = simp ints (omega arith)

    go : (t : Bool) → le_z a b ≡ t → (a ⩽ b) ⊎ (b ⋖ a)
    go true e = inl (yes_le a b e)
    go false e = inr (no_le a b e)

min_left_z : (a b : ℤ) → min_z a b ⩽ a
min_left_z a b = simp ints (omega arith)

min_right_z : (a b : ℤ) → min_z a b ⩽ b
min_right_z a b = simp ints (omega arith)

pub min_one_z : (a b : ℤ) → (min_z a b ≡ a) ⊎ (min_z a b ≡ b)
min_one_z a b = ⊎_elim (λ h. inl (left a b h)) (λ h. inr (right a b h)) (le_or a b)
  where
    left : (a b : ℤ) → a ⩽ b → min_z a b ≡ a
    left a b = simp ints (omega arith)

    right : (a b : ℤ) → b ⋖ a → min_z a b ≡ b
    right a b = simp ints (omega arith)

-- ---- the order
pub some_le : {a b : ℤ} → a ⩽ b → some a ⊑ some b
some_le h = record { le = h }

pub le_some : {a b : ℤ} → some a ⊑ some b → a ⩽ b
le_some h = h.le

pub le_none : (a : Distance) → a ⊑ none
le_none none = record { le = tt }
le_none (some a) = record { le = tt }

refl' : (a : Distance) → Le a a
refl' none = tt
refl' (some a) = le_refl a

pub ⊑_refl : (a : Distance) → a ⊑ a
⊑_refl a = record { le = refl' a }

pub ⊑_of_eq : {a b : Distance} → a ≡ b → a ⊑ b
⊑_of_eq {a} e = subst (λ (x : Distance). a ⊑ x) e (⊑_refl a)

trans' : (a b c : Distance) → Le a b → Le b c → Le a c
trans' none none none h k = tt
trans' (some a) none none h k = tt
trans' none (some b) none h k = tt
trans' (some a) (some b) none h k = tt
trans' none none (some c) h k = k
trans' (some a) none (some c) h k = absurd k
trans' none (some b) (some c) h k = h
trans' (some a) (some b) (some c) h k = le_trans h k

pub ⊑_trans : {a b c : Distance} → a ⊑ b → b ⊑ c → a ⊑ c
⊑_trans {a} {b} {c} h k = record { le = trans' a b c h.le k.le }

anti' : (a b : Distance) → Le a b → Le b a → a ≡ b
anti' none none h k = refl
anti' none (some b) h k = absurd h
anti' (some a) none h k = absurd k
anti' (some a) (some b) h k = ap some (le_antisym h k)

pub ⊑_anti : {a b : Distance} → a ⊑ b → b ⊑ a → a ≡ b
⊑_anti {a} {b} h k = anti' a b h.le k.le

-- ---- the smaller of two
min_left' : (a b : Distance) → Le (min_d a b) a
min_left' none b = (le_none b).le
min_left' (some a) none = le_refl a
min_left' (some a) (some b) = min_left_z a b

min_right' : (a b : Distance) → Le (min_d a b) b
min_right' none b = refl' b
min_right' (some a) none = tt
min_right' (some a) (some b) = min_right_z a b

pub min_left : (a b : Distance) → min_d a b ⊑ a
min_left a b = record { le = min_left' a b }

pub min_right : (a b : Distance) → min_d a b ⊑ b
min_right a b = record { le = min_right' a b }

pub min_one : (a b : Distance) → (min_d a b ≡ a) ⊎ (min_d a b ≡ b)
min_one none b = inr refl
min_one (some a) none = inl refl
min_one (some a) (some b) = ⊎_elim (λ e. inl (ap some e)) (λ e. inr (ap some e)) (min_one_z a b)

-- ---- sums
add_mono : (a b w : ℤ) → a ⩽ b → a +ℤ w ⩽ b +ℤ w
add_mono a b w = simp ints (omega arith)

mono' : (a b : Distance) (w : ℤ) → Le a b → Le (a ⊕ w) (b ⊕ w)
mono' none none w h = tt
mono' none (some b) w h = h
mono' (some a) none w h = tt
mono' (some a) (some b) w h = add_mono a b w h

pub ⊕_mono : {a b : Distance} (w : ℤ) → a ⊑ b → a ⊕ w ⊑ b ⊕ w
⊕_mono {a} {b} w h = record { le = mono' a b w h.le }

pub ⊕_assoc : (a : Distance) (v w : ℤ) → a ⊕ v ⊕ w ≡ a ⊕ (v +ℤ w)
⊕_assoc none v w = refl
⊕_assoc (some a) v w = ap some (regroup a v w)
  where
    regroup : (a v w : ℤ) → (a +ℤ v) +ℤ w ≡ a +ℤ (v +ℤ w)
    regroup a v w = simp ints (omega arith)

pub ⊕_zero : (a : Distance) → a ⊕ pos 0 ≡ a
⊕_zero none = refl
⊕_zero (some a) = ap some (plus_zero a)
  where
    plus_zero : (a : ℤ) → a +ℤ pos 0 ≡ a
    plus_zero a = simp ints (omega arith)

-- a sum that is an integer is a sum of integers
pub ⊕_some : (a : Distance) (w z : ℤ) → a ⊕ w ≡ some z → (x : ℤ) × (a ≡ some x) × (x +ℤ w ≡ z)
⊕_some none w z e = never (cc)
⊕_some (some a) w z e = (a, refl, (cc))

-- ---- at most an integer
pub up_mono : {b : Distance} {y z : ℤ} → Up b y → y ⩽ z → Up b z
up_mono (up u) h = up (le_trans u h)

pub up_at : (d : ℤ) → Up (some d) d
up_at d = up (le_refl d)

pub up_some : {b : Distance} {d : ℤ} → b ≡ some d → Up b d
up_some {b} {d} e = subst (λ x. Up x d) (sym e) (up_at d)

pub up_eq : {b c : Distance} {z : ℤ} → b ≡ c → Up b z → Up c z
up_eq {z} e = subst (λ x. Up x z) e

pub up_le : {d z : ℤ} → Up (some d) z → d ⩽ z
up_le (up h) = h

abbrev Finite : Distance → Type 0
Finite none = ⊥
Finite (some d) = Unit {0}

finite : {b : Distance} {z : ℤ} → Up b z → Finite b
finite (up h) = tt

pub not_none {ℓ} : {A : Type ℓ} {z : ℤ} → Up none z → A
not_none u = absurd (finite u)

pub up_inv : {b : Distance} {z : ℤ} → Up b z → (d : ℤ) × (b ≡ some d) × (d ⩽ z)
up_inv (up {d} l) = (d, refl, l)

pub some_below : {d v : ℤ} → v ⩽ d → Below v (some d)
some_below h z (up u) = le_trans h u

pub up_plus : {a b : Distance} {x y : ℤ} → Up a x → Up b y → Up (a ⊞ b) (x +ℤ y)
up_plus (up {d = a} {z = x} u) (up {d = b} {z = y} v) = up (add a b x y u v)
  where
    add : (a b x y : ℤ) → a ⩽ x → b ⩽ y → a +ℤ b ⩽ x +ℤ y
    add a b x y = simp ints (omega arith)

pub up_plus_e : (a b : Distance) (z : ℤ) → Up (a ⊞ b) z → (x : ℤ) × (y : ℤ) × Up a x × Up b y × (x +ℤ y ⩽ z)
up_plus_e none b z u = not_none u
up_plus_e (some a) none z u = not_none u
up_plus_e (some a) (some b) z (up u) = (a, b, up_at a, up_at b, u)

pub up_of_le : {a b : Distance} → a ⊑ b → (z : ℤ) → Up b z → Up a z
up_of_le {a} {b} h z u = go a b h.le u
  where
    go : (a b : Distance) → Le a b → Up b z → Up a z
    go none (some b) h (up u) = absurd h
    go (some a) (some b) h (up u) = up (le_trans h u)
    go a none h u = not_none u

pub up_min_l : {a : Distance} (b : Distance) {z : ℤ} → Up a z → Up (min_d a b) z
up_min_l {a} b {z} u = up_of_le (min_left a b) z u

pub up_min_r : (a : Distance) {b : Distance} {z : ℤ} → Up b z → Up (min_d a b) z
up_min_r a {b} {z} u = up_of_le (min_right a b) z u

pub up_min_e : (a b : Distance) (z : ℤ) → Up (min_d a b) z → Up a z ⊎ Up b z
up_min_e a b z u = ⊎_elim (λ e. inl (up_eq e u)) (λ e. inr (up_eq e u)) (min_one a b)

pub half_double : {a : Distance} {x : ℤ} → Up (half_d a) x → Up a (x +ℤ x +ℤ pos 1)
half_double {a = none} u = not_none u
half_double {a = some d} {x} (up u) = up (double d x u)
  where
    double : (d x : ℤ) → half d ⩽ x → d ⩽ x +ℤ x +ℤ pos 1
    double d x = simp ints (omega arith)

pub double_half : {a : Distance} (x : ℤ) → Up a (x +ℤ x +ℤ pos 1) → Up (half_d a) x
double_half {a = none} x u = not_none u
double_half {a = some d} x u = up (halve d x (up_le u))
  where
    halve : (d x : ℤ) → d ⩽ x +ℤ x +ℤ pos 1 → half d ⩽ x
    halve d x = simp ints (omega arith)

-- ---- back to the order and to equality
pub le_of_up : (a b : Distance) → ((z : ℤ) → Up b z → Up a z) → a ⊑ b
le_of_up a none f = le_none a
le_of_up none (some b) f = not_none (f b (up_at b))
le_of_up (some a) (some b) f = some_le (up_le (f b (up_at b)))

pub eq_of_up : (a b : Distance) → ((z : ℤ) → Up a z → Up b z) → ((z : ℤ) → Up b z → Up a z) → a ≡ b
eq_of_up a b f g = ⊑_anti (le_of_up a b g) (le_of_up b a f)

pub up_dec : (b : Distance) (z : ℤ) → Up b z ⊎ Below (z +ℤ pos 1) b
up_dec none z = inr (λ y u. not_none u)
up_dec (some d) z = ⊎_elim (λ h. inl (up h)) (λ h. inr (some_below (more z d h))) (le_or d z)
  where
    more : (a b : ℤ) → a ⋖ b → a +ℤ pos 1 ⩽ b
    more a b = simp ints (omega arith)
