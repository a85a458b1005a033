-- What one step of the writing adds to a text.
use Rattle.std.specs.Prelude.{◌≡◌, refl, List, [], ◌∷◌, ◌++◌, ℕ, zero, suc, ◌+◌, ◌*◌, ◌<◌, ℤ, pos, negsuc, nat_abs, length, get_or, take, drop, set}
use Rattle.std.proofs.Common.{sym, ap, ◌∙◌, append_assoc, append-nil, add-one, arith, take-suc}
use Rattle.std.proofs.lemmas.List.{set_split}
use Rattle.std.proofs.Math.Seq.{append_snoc}
use Rattle.integers.specs.Integer.{◌⩽◌, ◌⋖◌}
use Rattle.integers.proofs.Linear.{ints}
use Rattle.lines.specs.Limits.{absent_least, absent_greatest}
use Rattle.file_text.specs.Text.{space, newline, minus, decimal_of, signed_text, bound_text, line_text, lines_text, followed, spaced}

-- a byte stored
pub byte_put : (d : List ℕ) (at b : ℕ) → at < length d → set d at b ≡ take at d ++ (b ∷ []) ++ drop (at + 1) d
byte_put d at b h =
    set_split d at b h
    ∙ sym (append_snoc (take at d) b (drop (suc at) d))
    ∙ ap (λ (i : ℕ). take at d ++ b ∷ [] ++ drop i d) (sym (add-one at))

-- ---- a number of either sign
pub signed_below : (z : ℤ) → z ⋖ pos 0 → minus ++ decimal_of (nat_abs z) ≡ signed_text z
unfolding signed_text
signed_below (pos n) h = absurd (no n h)
  where
    no : (n : ℕ) → pos n ⋖ pos 0 → ⊥
    no n = simp ints (omega arith)
signed_below (negsuc n) h = refl

pub signed_from_0 : (z : ℤ) → pos 0 ⩽ z → decimal_of (nat_abs z) ≡ signed_text z
unfolding signed_text
signed_from_0 (pos n) h = refl
signed_from_0 (negsuc n) h = absurd (no n h)
  where
    no : (n : ℕ) → pos 0 ⩽ negsuc n → ⊥
    no n = simp ints (omega arith)

-- ---- a line
abbrev pub value_text : ℕ → ℤ → List ℕ
value_text x value = decimal_of x ++ space ++ signed_text value ++ space

abbrev pub bounds_text : ℤ → ℤ → List ℕ
bounds_text least greatest = bound_text absent_least least ++ space ++ bound_text absent_greatest greatest ++ space

abbrev pub group_text : ℕ → ℕ → List ℕ
group_text variable sign = decimal_of variable ++ space ++ decimal_of sign ++ newline

pub bounds_same : {a b c d : ℤ} → a ≡ b → c ≡ d → bounds_text a c ≡ bounds_text b d
bounds_same {a} {b} {c} {d} p q = ap (λ (z : ℤ). bounds_text z c) p ∙ ap (bounds_text b) q

-- a line by its parts
pub line_parts : (x : ℕ) (model bounds : List ℤ) (groups : List ℕ)
    → value_text x (get_or model x (pos 0)) ++ bounds_text (get_or bounds (2 * x) (pos 0)) (get_or bounds (2 * x + 1) (pos 0)) ++ group_text (get_or groups (2 * x) 0) (get_or groups (2 * x + 1) 0)
    ≡ line_text x model bounds groups
unfolding line_text
line_parts x model bounds groups = simp append_assoc

-- one more line
pub lines_more : (x : ℕ) (model bounds : List ℤ) (groups : List ℕ)
    → lines_text x model bounds groups ++ line_text x model bounds groups ≡ lines_text (x + 1) model bounds groups
unfolding lines_text
lines_more x model bounds groups = rw add-one

-- ---- numbers with one space between
-- what the number with index i adds
abbrev pub next_text : ℕ → ℕ → List ℕ
next_text zero n = decimal_of n
next_text (suc i) n = space ++ decimal_of n

pub next_first : (i n : ℕ) → i ≡ 0 → decimal_of n ≡ next_text i n
next_first i n e = ap (λ (k : ℕ). next_text k n) (sym e)

pub next_later : (i n : ℕ) → (i ≡ 0 → ⊥) → space ++ decimal_of n ≡ next_text i n
next_later zero n h = absurd (h refl)
next_later (suc i) n h = refl

followed_more : (ns : List ℕ) (n : ℕ) → followed (ns ++ n ∷ []) ≡ followed ns ++ space ++ decimal_of n
unfolding followed
followed_more [] n = simp append-nil
followed_more (m ∷ ns) n = ap (λ (l : List ℕ). space ++ decimal_of m ++ l) (followed_more ns n) ∙ simp append_assoc

pub spaced_more : (i : ℕ) (ns : List ℕ) → i < length ns → spaced (take i ns) ++ next_text i (get_or ns i 0) ≡ spaced (take (i + 1) ns)
unfolding spaced followed
spaced_more i ns h = rw (add-one, take-suc ns i 0) (go i ns h)
  where
    go : (i : ℕ) (ns : List ℕ) → i < length ns → spaced (take i ns) ++ next_text i (get_or ns i 0) ≡ spaced (take i ns ++ get_or ns i 0 ∷ [])
    go i [] h = absurd (omega arith)
    go zero (n ∷ ns) h = sym (append-nil (decimal_of n))
    go (suc i) (n ∷ ns) h =
        append_assoc (decimal_of n) (followed (take i ns)) (space ++ decimal_of (get_or ns i 0))
        ∙ ap (λ (l : List ℕ). decimal_of n ++ l) (sym (append_assoc (followed (take i ns)) space (decimal_of (get_or ns i 0))) ∙ sym (followed_more (take i ns) (get_or ns i 0)))
