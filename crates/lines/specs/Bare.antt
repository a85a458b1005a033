-- Lines that differ in their identifiers alone: they say the same of solutions.
use Rattle.std.specs.Prelude.{◌≡◌, refl, List, [], ◌∷◌, ℕ, zero, suc, ◌<◌, ℤ, take}
use Rattle.std.proofs.Common.{sym, ap, subst, ◌∙◌, arith}
use Rattle.integers.specs.Sequence.{tabulate}
use Rattle.lines.specs.declared.Line.{Line}
use Rattle.lines.specs.Limits.{bare_size}
use Rattle.lines.specs.Line.{Assignment, line_numbers_lem, line_of, line_at, line_count, lines_of, left_side_lem, Solves, is_false_lem}

-- a line without its identifier: the numbers before it, and 0
unfoldable pub bare : Line → Line
bare l = line_of (take bare_size (line_numbers_lem l))

-- two lists that differ only in identifiers: as many lines, and each the same without its identifier
pub record OnlyIdentifiers (L M : List ℤ) : Type 0 where
  pub count : line_count L ≡ line_count M
  pub line : (k : ℕ) → k < line_count L → bare (line_at L k) ≡ bare (line_at M k)

-- the same of lines
abbrev pub SameBare : List Line → List Line → Type 0
SameBare [] [] = Unit {0}
SameBare [] (m ∷ ms) = ⊥
SameBare (l ∷ ls) [] = ⊥
SameBare (l ∷ ls) (m ∷ ms) = (bare l ≡ bare m) × SameBare ls ms

pub lines_same : (L M : List ℤ) → OnlyIdentifiers L M → SameBare (lines_of L) (lines_of M)
lines_same L M o = subst (λ (c : ℕ). SameBare (lines_of L) (tabulate c (line_at M))) o.count (go (line_count L) (line_at L) (line_at M) o.line)
  where
    go : (c : ℕ) (f g : ℕ → Line) → ((k : ℕ) → k < c → bare (f k) ≡ bare (g k)) → SameBare (tabulate c f) (tabulate c g)
    go zero f g e = tt
    go (suc c) f g e = (e 0 (omega arith), go c (λ k. f (suc k)) (λ k. g (suc k)) (λ k h. e (suc k) (omega arith)))

-- ---- what looks at no identifier is the same of both
module _ {A : Type 0} (f : Line → A) (blind : (l : Line) → f (bare l) ≡ f l) where
  pub blind_same : (l m : Line) → bare l ≡ bare m → f l ≡ f m
  blind_same l m e = sym (blind l) ∙ ap f e ∙ blind m

pub false_blind : (l : Line) → is_false_lem (bare l) ≡ is_false_lem l
unfolding bare line_numbers_lem is_false_lem
false_blind l = refl

side_blind : (s : Assignment) (l : Line) → left_side_lem s (bare l) ≡ left_side_lem s l
unfolding bare line_numbers_lem left_side_lem
side_blind s l = refl

bound_blind : (l : Line) → (bare l).d ≡ l.d
unfolding bare line_numbers_lem
bound_blind l = refl

pub same_solves : (ls ms : List Line) → SameBare ls ms → (s : Assignment) → Solves ls s → Solves ms s
same_solves [] [] e s h = tt
same_solves [] (m ∷ ms) e s h = absurd e
same_solves (l ∷ ls) [] e s h = absurd e
same_solves (l ∷ ls) (m ∷ ms) e s h =
    (rw (← blind_same (left_side_lem s) (side_blind s) l m e.0, ← blind_same (λ k. k.d) bound_blind l m e.0) h.0, same_solves ls ms e.1 s h.1)
