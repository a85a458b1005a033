-- Linear arithmetic over ℤ, through ℕ, where `omega` works:
--     simp ints (omega arith)          proves a goal over ℤ with its hypotheses still to the left of its arrows: sums, differences, negations,
--                                      literals, multiples by `pos k`, `half`, `min_z`, `max_z`, `nat_abs`; orders, equations, `SFits`,
--                                      outcomes of `lt_z` and `le_z`, and → × ¬ ↔ of these
--     given h (simp ints (omega zs))   the same from facts in hand (`given₂`, `given₃`)
--     omega zs                         where each side of each statement is one term
--     simp (code, FITS ..) ..          at a need of code: `code` is `ints` and `to_z-of_z`, whose premises are listed
use Rattle.std.specs.Prelude.{◌≡◌, refl, ◌↔◌, Bool, true, false, not, cond, ℕ, zero, suc, ◌+◌, ◌*◌, ◌-◌, ◌/◌, ◌^◌, ◌≤◌, ◌<◌, min, max, T, ltb, ℤ, pos, negsuc, neg_ℤ, ◌+ℤ◌, ◌*ℤ◌, nat_abs, ◌≤ℤ◌, ◌<ℤ◌}
use Rattle.std.proofs.Common.{sym, ap, subst, to_z-of_z, arith, leb→le, le→leb, ltb→lt, lt→ltb, nltb→le}
use Rattle.std.specs.Int.{Width}
use mir.Val.{SFits, hbits}
use Rattle.std.proofs.Math.IntN.{sub_ℕ, suc_ℤ, pred_ℤ, *ℤ_comm, +ℤ_one, -ℤ_one, neg_ℤ-neg_ℤ}
use Rattle.std.specs.Int.Signed.{le_z, lt_z, lt_z_no, shr_z, mag}
use Rattle.integers.specs.Integer.{◌⩽◌, half, min_z, max_z}

-- positive and negative part: z = posPart z - negPart z
abbrev pub pos_part : ℤ → ℕ
pos_part (pos n) = n
pos_part (negsuc n) = 0

abbrev pub neg_part : ℤ → ℕ
neg_part (pos n) = 0
neg_part (negsuc n) = suc n

-- ---- order and equality, both ways
le_to : (a b : ℤ) → T (le_z a b) → pos_part a + neg_part b ≤ pos_part b + neg_part a
le_to (pos a) (pos b) t = omega (arith, leb→le a b t)
le_to (pos a) (negsuc b) t = absurd t
le_to (negsuc a) (pos b) t = omega arith
le_to (negsuc a) (negsuc b) t = omega (arith, leb→le b a t)

le_from : (a b : ℤ) → pos_part a + neg_part b ≤ pos_part b + neg_part a → T (le_z a b)
le_from (pos a) (pos b) h = le→leb a b (omega arith)
le_from (pos a) (negsuc b) h = omega arith
le_from (negsuc a) (pos b) h = tt
le_from (negsuc a) (negsuc b) h = le→leb b a (omega arith)

lt_to : (a b : ℤ) → T (lt_z a b) → pos_part a + neg_part b < pos_part b + neg_part a
lt_to (pos a) (pos b) t = omega (arith, ltb→lt a b t)
lt_to (pos a) (negsuc b) t = absurd t
lt_to (negsuc a) (pos b) t = omega arith
lt_to (negsuc a) (negsuc b) t = omega (arith, ltb→lt b a t)

lt_from : (a b : ℤ) → pos_part a + neg_part b < pos_part b + neg_part a → T (lt_z a b)
lt_from (pos a) (pos b) h = lt→ltb a b (omega arith)
lt_from (pos a) (negsuc b) h = omega arith
lt_from (negsuc a) (pos b) h = tt
lt_from (negsuc a) (negsuc b) h = lt→ltb b a (omega arith)

pub le_elim : (a b : ℤ) → a ≤ℤ b → pos_part a + neg_part b ≤ pos_part b + neg_part a
le_elim a b h = le_to a b h.le

pub le_intro : (a b : ℤ) → pos_part a + neg_part b ≤ pos_part b + neg_part a → a ≤ℤ b
le_intro a b h = record { le = le_from a b h }

pub lt_elim : (a b : ℤ) → a <ℤ b → pos_part a + neg_part b < pos_part b + neg_part a
lt_elim a b h = lt_to a b h.lt

pub lt_intro : (a b : ℤ) → pos_part a + neg_part b < pos_part b + neg_part a → a <ℤ b
lt_intro a b h = record { lt = lt_from a b h }

pub eq_elim : (a b : ℤ) → a ≡ b → pos_part a + neg_part b ≡ pos_part b + neg_part a
eq_elim a b e = subst (λ (z : ℤ). pos_part a + neg_part z ≡ pos_part z + neg_part a) e (omega arith)

pub eq_intro : (a b : ℤ) → pos_part a + neg_part b ≡ pos_part b + neg_part a → a ≡ b
eq_intro (pos a) (pos b) h = ap pos (omega arith)
eq_intro (pos a) (negsuc b) h = absurd (omega arith)
eq_intro (negsuc a) (pos b) h = absurd (omega arith)
eq_intro (negsuc a) (negsuc b) h = ap negsuc (omega arith)

-- ---- the operations
pub cond_ind : (c : Bool) (x y : ℤ) (P : ℤ → Type 0) → (T c → P x) → (T (not c) → P y) → P (cond c x y)
cond_ind true x y P f g = f tt
cond_ind false x y P f g = g tt

sub_is : (a b : ℕ) → pos_part (sub_ℕ a b) + b ≡ neg_part (sub_ℕ a b) + a
sub_is a b = cond_ind (ltb a b) (negsuc (b - suc a)) (pos (a - b)) (λ z. pos_part z + b ≡ neg_part z + a)
    (λ t. omega (arith, ltb→lt a b t)) (λ t. omega (arith, nltb→le a b t))

pub sum_parts : (a b : ℤ) → pos_part (a +ℤ b) + (neg_part a + neg_part b) ≡ neg_part (a +ℤ b) + (pos_part a + pos_part b)
sum_parts (pos a) (pos b) = omega arith
sum_parts (pos a) (negsuc b) = omega (arith, sub_is a (suc b))
sum_parts (negsuc a) (pos b) = omega (arith, sub_is b (suc a))
sum_parts (negsuc a) (negsuc b) = omega arith

pub pos_part_neg : (a : ℤ) → pos_part (neg_ℤ a) ≡ neg_part a
pos_part_neg (pos zero) = refl
pos_part_neg (pos (suc n)) = refl
pos_part_neg (negsuc n) = refl

pub neg_part_neg : (a : ℤ) → neg_part (neg_ℤ a) ≡ pos_part a
neg_part_neg (pos zero) = refl
neg_part_neg (pos (suc n)) = refl
neg_part_neg (negsuc n) = refl

pub half_shr : (z : ℤ) → half z ≡ shr_z z 2
half_shr (pos n) = refl
half_shr (negsuc n) = refl

-- ---- the translation, by `simp ints`: each statement over ℤ becomes one over ℕ, which omega reads.
-- `diff m n` is m - n, and `term z` is z, marked as a term still to be translated. They are shut: nothing but these rules sees through them.
pub diff : ℕ → ℕ → ℤ
diff m n = sub_ℕ m n

pub term : ℤ → ℤ
term z = z

pub diff_is : (m n : ℕ) → pos_part (diff m n) + n ≡ neg_part (diff m n) + m
unfolding diff
diff_is m n = sub_is m n

-- z is m - n where its parts say so
is_diff : (z : ℤ) (m n : ℕ) → pos_part z + n ≡ neg_part z + m → z ≡ diff m n
is_diff z m n h = eq_intro z (diff m n) (omega (arith, diff_is m n))

pub term_atom : (z : ℤ) → term z ≡ diff (pos_part z) (neg_part z)
unfolding term
term_atom z = is_diff z (pos_part z) (neg_part z) (omega arith)

-- the operations on m - n
pub add' : ℤ → ℤ → ℤ
add' a b = a +ℤ b

pub neg' : ℤ → ℤ
neg' a = neg_ℤ a

pub half' : ℤ → ℤ
half' a = half a

pub min' : ℤ → ℤ → ℤ
min' a b = min_z a b

pub max' : ℤ → ℤ → ℤ
max' a b = max_z a b

pub times' : ℕ → ℤ → ℤ
times' k a = pos k *ℤ a

pub abs' : ℤ → ℕ
abs' a = nat_abs a

pub term_add : (a b : ℤ) → term (a +ℤ b) ≡ add' (term a) (term b)
unfolding term add'
term_add a b = refl

pub term_neg : (a : ℤ) → term (neg_ℤ a) ≡ neg' (term a)
unfolding term neg'
term_neg a = refl

pub term_half : (a : ℤ) → term (half a) ≡ half' (term a)
unfolding term half'
term_half a = refl

pub term_shr : (a : ℤ) → term (shr_z a 2) ≡ half' (term a)
unfolding term half'
term_shr a = sym (half_shr a)

pub term_min : (a b : ℤ) → term (min_z a b) ≡ min' (term a) (term b)
unfolding term min'
term_min a b = refl

pub term_max : (a b : ℤ) → term (max_z a b) ≡ max' (term a) (term b)
unfolding term max'
term_max a b = refl

pub term_times : (k : ℕ) (a : ℤ) → term (pos k *ℤ a) ≡ times' k (term a)
unfolding term times'
term_times k a = refl

pub term_times_r : (k : ℕ) (a : ℤ) → term (a *ℤ pos k) ≡ times' k (term a)
unfolding term times'
term_times_r k a = *ℤ_comm a (pos k)

-- a negative multiple
negsuc_times : (k : ℕ) (a : ℤ) → negsuc k *ℤ a ≡ neg_ℤ (pos (suc k) *ℤ a)
negsuc_times k (pos b) = refl
negsuc_times k (negsuc b) = sym (neg_ℤ-neg_ℤ (pos (suc k * suc b)))

pub term_times_neg : (k : ℕ) (a : ℤ) → term (negsuc k *ℤ a) ≡ neg' (times' (suc k) (term a))
unfolding term times' neg'
term_times_neg k a = negsuc_times k a

pub term_suc : (a : ℤ) → term (suc_ℤ a) ≡ add' (term a) (diff 1 0)
unfolding term add' diff
term_suc a = sym (+ℤ_one a)

pub term_pred : (a : ℤ) → term (pred_ℤ a) ≡ add' (term a) (diff 0 1)
unfolding term add' diff
term_pred a = sym (-ℤ_one a)

pub term_pos : (n : ℕ) → term (pos n) ≡ diff n 0
term_pos n = term_atom (pos n)

pub term_negsuc : (n : ℕ) → term (negsuc n) ≡ diff 0 (n + 1)
unfolding term
term_negsuc n = is_diff (negsuc n) 0 (n + 1) (omega arith)

pub abs_term : (a : ℤ) → nat_abs a ≡ abs' (term a)
unfolding term abs'
abs_term a = refl

-- what each operation gives on two such numbers
pub add_d : (m n k l : ℕ) → add' (diff m n) (diff k l) ≡ diff (m + k) (n + l)
unfolding add'
add_d m n k l = is_diff _ _ _ (omega (arith, sum_parts (diff m n) (diff k l), diff_is m n, diff_is k l))

pub neg_d : (m n : ℕ) → neg' (diff m n) ≡ diff n m
unfolding neg'
neg_d m n = is_diff _ _ _ (omega (arith, pos_part_neg (diff m n), neg_part_neg (diff m n), diff_is m n))

half_is : (z : ℤ) → pos_part (half z) + neg_part z ≡ neg_part (half z) + (pos_part z + neg_part z) / 2
half_is (pos n) = omega arith
half_is (negsuc n) = omega arith

half_move : (p n m k h g : ℕ) → p + k ≡ n + m → h + n ≡ g + (p + n) / 2 → h + k ≡ g + (m + k) / 2
half_move p n m k h g e f = omega arith

pub half_d : (m n : ℕ) → half' (diff m n) ≡ diff ((m + n) / 2) n
unfolding half'
half_d m n = is_diff _ _ _ (half_move _ _ m n _ _ (diff_is m n) (half_is (diff m n)))

min_is : (a b : ℤ) → pos_part (min_z a b) + (neg_part a + neg_part b) ≡ neg_part (min_z a b) + min (pos_part a + neg_part b) (pos_part b + neg_part a)
min_is (pos a) (pos b) = omega arith
min_is (pos a) (negsuc b) = omega arith
min_is (negsuc a) (pos b) = omega arith
min_is (negsuc a) (negsuc b) = omega arith

max_is : (a b : ℤ) → pos_part (max_z a b) + (neg_part a + neg_part b) ≡ neg_part (max_z a b) + max (pos_part a + neg_part b) (pos_part b + neg_part a)
max_is (pos a) (pos b) = omega arith
max_is (pos a) (negsuc b) = omega arith
max_is (negsuc a) (pos b) = omega arith
max_is (negsuc a) (negsuc b) = omega arith

pub min_d : (m n k l : ℕ) → min' (diff m n) (diff k l) ≡ diff (min (m + l) (k + n)) (n + l)
unfolding min'
min_d m n k l = is_diff _ _ _ (omega (arith, min_is (diff m n) (diff k l), diff_is m n, diff_is k l))

pub max_d : (m n k l : ℕ) → max' (diff m n) (diff k l) ≡ diff (max (m + l) (k + n)) (n + l)
unfolding max'
max_d m n k l = is_diff _ _ _ (omega (arith, max_is (diff m n) (diff k l), diff_is m n, diff_is k l))

times_is : (k : ℕ) (z : ℤ) → pos_part (pos k *ℤ z) + k * neg_part z ≡ neg_part (pos k *ℤ z) + k * pos_part z
times_is k (pos n) = omega arith
times_is k (negsuc n) = omega (arith, pos_part_neg (pos (k * suc n)), neg_part_neg (pos (k * suc n)))

times_move : (k p n m l x y : ℕ) → p + l ≡ n + m → x + k * n ≡ y + k * p → x + k * l ≡ y + k * m
times_move k p n m l x y e f = omega (arith, ap (λ (t : ℕ). k * t) e)

pub times_d : (k m n : ℕ) → times' k (diff m n) ≡ diff (k * m) (k * n)
unfolding times'
times_d k m n = is_diff _ _ _ (times_move k _ _ m n _ _ (diff_is m n) (times_is k (diff m n)))

abs_is : (z : ℤ) → nat_abs z ≡ (pos_part z - neg_part z) + (neg_part z - pos_part z)
abs_is (pos n) = omega arith
abs_is (negsuc n) = omega arith

pub abs_d : (m n : ℕ) → abs' (diff m n) ≡ (m - n) + (n - m)
unfolding abs'
abs_d m n = omega (arith, abs_is (diff m n), diff_is m n)

-- the statements
pub Le : ℤ → ℤ → Type 0
Le a b = a ≤ℤ b

pub Lt : ℤ → ℤ → Type 0
Lt a b = a <ℤ b

pub Eq : ℤ → ℤ → Type 0
Eq a b = a ≡ b

pub Fit : Width → ℤ → Type 0
Fit w a = SFits w a

pub le_term : (a b : ℤ) → (a ≤ℤ b) ↔ Le (term a) (term b)
unfolding Le term
le_term a b = ((λ h. h), (λ h. h))

pub lt_term : (a b : ℤ) → (a <ℤ b) ↔ Lt (term a) (term b)
unfolding Lt term
lt_term a b = ((λ h. h), (λ h. h))

pub eq_term : (a b : ℤ) → (a ≡ b) ↔ Eq (term a) (term b)
unfolding Eq term
eq_term a b = ((λ h. h), (λ h. h))

pub fit_term : (w : Width) (a : ℤ) → SFits w a ↔ Fit w (term a)
unfolding Fit term
fit_term w a = ((λ h. h), (λ h. h))

pub le_d : (m n k l : ℕ) → Le (diff m n) (diff k l) ↔ (m + l ≤ k + n)
unfolding Le
le_d m n k l = ((λ h. omega (arith, le_elim (diff m n) (diff k l) h, diff_is m n, diff_is k l)), (λ h. le_intro (diff m n) (diff k l) (omega (arith, diff_is m n, diff_is k l))))

pub lt_d : (m n k l : ℕ) → Lt (diff m n) (diff k l) ↔ (m + l < k + n)
unfolding Lt
lt_d m n k l = ((λ h. omega (arith, lt_elim (diff m n) (diff k l) h, diff_is m n, diff_is k l)), (λ h. lt_intro (diff m n) (diff k l) (omega (arith, diff_is m n, diff_is k l))))

pub eq_d : (m n k l : ℕ) → Eq (diff m n) (diff k l) ↔ (m + l ≡ k + n)
unfolding Eq
eq_d m n k l = ((λ h. omega (arith, eq_elim (diff m n) (diff k l) h, diff_is m n, diff_is k l)), (λ h. eq_intro (diff m n) (diff k l) (omega (arith, diff_is m n, diff_is k l))))

mag_to : (H : ℕ) (z : ℤ) → mag z < H → (pos_part z < neg_part z + H) × (neg_part z ≤ pos_part z + H)
mag_to H (pos n) h = omega arith
mag_to H (negsuc n) h = omega arith

mag_from : (H : ℕ) (z : ℤ) → (pos_part z < neg_part z + H) × (neg_part z ≤ pos_part z + H) → mag z < H
mag_from H (pos n) h = omega arith
mag_from H (negsuc n) h = omega arith

pub fit_elim : (w : Width) (z : ℤ) → SFits w z → (pos_part z < neg_part z + 2 ^ hbits w) × (neg_part z ≤ pos_part z + 2 ^ hbits w)
fit_elim w z h = mag_to (2 ^ hbits w) z h.sfits

pub fit_intro : (w : Width) (z : ℤ) → (pos_part z < neg_part z + 2 ^ hbits w) × (neg_part z ≤ pos_part z + 2 ^ hbits w) → SFits w z
fit_intro w z h = record { sfits = mag_from (2 ^ hbits w) z h }

pub fit_d : (w : Width) (m n : ℕ) → Fit w (diff m n) ↔ ((m < n + 2 ^ hbits w) × (n ≤ m + 2 ^ hbits w))
unfolding Fit
fit_d w m n = ((λ h. omega (arith, fit_elim w (diff m n) h, diff_is m n)), (λ h. fit_intro w (diff m n) (omega (arith, diff_is m n))))

-- a test's outcome, as a branch of the code leaves it
is_true : (t : Bool) → T t → t ≡ true
is_true true h = refl
is_true false h = absurd h

is_false : (t : Bool) → (T t → ⊥) → t ≡ false
is_false true h = absurd (h tt)
is_false false h = refl

pub lt_true_term : (a b : ℤ) → (lt_z a b ≡ true) ↔ Lt (term a) (term b)
unfolding Lt term
lt_true_term a b = ((λ e. record { lt = subst T (sym e) tt }), (λ h. is_true (lt_z a b) h.lt))

pub lt_false_term : (a b : ℤ) → (lt_z a b ≡ false) ↔ Le (term b) (term a)
unfolding Le term
lt_false_term a b = ((λ e. lt_z_no (subst (λ (t : Bool). T (not t)) (sym e) tt)), (λ h. is_false (lt_z a b) (λ t. clash (le_elim b a h) (lt_to a b t))))
  where
    clash : {m n : ℕ} → m ≤ n → n < m → ⊥
    clash h k = omega arith

pub le_true_term : (a b : ℤ) → (le_z a b ≡ true) ↔ Le (term a) (term b)
unfolding Le term
le_true_term a b = ((λ e. record { le = subst T (sym e) tt }), (λ h. is_true (le_z a b) h.le))

nle : (a b : ℤ) → (T (le_z a b) → ⊥) → b <ℤ a
nle a b f = lt_intro b a (not_le (λ h. f (le_from a b h)))
  where
    not_le : {m n : ℕ} → ¬ (m ≤ n) → n < m
    not_le h = omega arith

pub le_false_term : (a b : ℤ) → (le_z a b ≡ false) ↔ Lt (term b) (term a)
unfolding Lt term
le_false_term a b = ((λ e. nle a b (λ t. subst T e t)), (λ h. is_false (le_z a b) (λ t. clash (le_to a b t) (lt_elim b a h))))
  where
    clash : {m n : ℕ} → m ≤ n → n < m → ⊥
    clash h k = omega arith

-- the order counts: `at-atom` fits every term, so it stands after the rules that take a term apart
pub ruleset ints = (lt_true_term, lt_false_term, le_true_term, le_false_term, le_term, lt_term, eq_term, fit_term, abs_term, term_add, term_neg, term_half, term_shr, term_min, term_max, term_times, term_times_r, term_times_neg, term_suc, term_pred, term_pos, term_negsuc, term_atom, add_d, neg_d, half_d, min_d, max_d, times_d, abs_d, le_d, lt_d, eq_d, fit_d)

-- ---- for `omega`: facts over ℤ in reach, and in the fields of records in reach, are read, with the two parts of each term as unknowns
pub fit : {w : Width} {z : ℤ} → SFits w z → (pos_part z < neg_part z + 2 ^ hbits w) × (neg_part z ≤ pos_part z + 2 ^ hbits w)
fit {w} {z} h = fit_elim w z h

pub ruleset zs = (arith, le_elim, le_intro, lt_elim, lt_intro, eq_elim, eq_intro)

-- at a need: what a signed local holds is read back from its bits
pub ruleset code = (to_z-of_z, ints)

-- facts in hand, for `simp`: `given h (simp ints (omega zs))`
pub given : {A B : Type 0} → A → (A → B) → B
given a f = f a

pub given₂ : {A B C : Type 0} → A → B → (A → B → C) → C
given₂ a b f = f a b

pub ≤ℤ_trans : {a b c : ℤ} → a ⩽ b → b ⩽ c → a ⩽ c
≤ℤ_trans {a} {b} {c} h k = omega zs
