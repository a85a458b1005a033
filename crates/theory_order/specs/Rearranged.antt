-- Lines in another order: each line of the one list is one of the other, so that both have the same solutions, and are valid together.
use Rattle.std.specs.Prelude.{◌≡◌, refl, List, ◌∷◌, ℕ, zero, suc, ◌%◌, ◌<◌, ℤ, length, Ok}
use Rattle.std.proofs.Common.{sym, ap, subst, ◌∙◌, arith}
use Rattle.integers.specs.Sequence.{length_tabulate}
use Rattle.lines.specs.declared.Line.{Line}
use Rattle.lines.specs.Limits.{line_size}
use Rattle.lines.specs.Line.{line_at, line_count, lines_of, Entails, SameSolutions}
use Rattle.lines.specs.Refusal.{line_validity_lem, validity_of}
use Rattle.lines.specs.Valid.{valid_list, list_valid, lines_valid, line_valid_more}
use Rattle.theory_walks.specs.Graph.{At, at_line, line_at_law, solves_line, lines_solve}

-- ms has the lines of ls in another order: two neighbours are swapped, anywhere, as often as it takes
pub data Rearranged : List Line → List Line → Type 0 where
  unchanged : {ls : List Line} → Rearranged ls ls
  swapped : {l m : Line} {ls : List Line} → Rearranged (l ∷ m ∷ ls) (m ∷ l ∷ ls)
  behind : {l : Line} {ls ms : List Line} → Rearranged ls ms → Rearranged (l ∷ ls) (l ∷ ms)
  further : {ls ms ks : List Line} → Rearranged ls ms → Rearranged ms ks → Rearranged ls ks

pub turned_back : {ls ms : List Line} → Rearranged ls ms → Rearranged ms ls
turned_back unchanged = unchanged
turned_back swapped = swapped
turned_back (behind p) = behind (turned_back p)
turned_back (further p q) = further (turned_back q) (turned_back p)

pub same_length : {ls ms : List Line} → Rearranged ls ms → length ls ≡ length ms
same_length unchanged = refl
same_length swapped = refl
same_length (behind p) = ap suc (same_length p)
same_length (further p q) = same_length p ∙ same_length q

-- each line of ls is one of ms
abbrev pub Includes : List Line → List Line → Type 0
Includes ms ls = (k : ℕ) (l : Line) → At ls k l → (j : ℕ) × At ms j l

pub includes : {ls ms : List Line} → Rearranged ls ms → Includes ms ls
includes unchanged k l a = (k, a)
includes swapped zero l a = (1, a)
includes swapped (suc zero) l a = (0, a)
includes swapped (suc (suc k)) l a = (suc (suc k), a)
includes (behind p) zero l a = (0, a)
includes (behind p) (suc k) l a = let r = includes p k l a in (suc r.0, r.1)
includes (further p q) k l a = let r = includes p k l a in includes q r.0 l r.1

-- ---- solutions
pub entails : (ls ms : List Line) → Includes ms ls → Entails ms ls
entails ls ms f s h = lines_solve ls s (λ k l a. let r = f k l a in solves_line ms s r.0 l h r.1)

pub same_solutions : (ls ms : List Line) → Rearranged ls ms → SameSolutions ls ms
same_solutions ls ms p s = (entails ms ls (includes (turned_back p)) s, entails ls ms (includes p) s)

-- ---- validity: the limits look at how many lines there are, and the rules at one line each
pub rearranged_valid : (n : ℕ) (L M : List ℤ) → Rearranged (lines_of L) (lines_of M) → length M % line_size ≡ 0 → validity_of n L ≡ Ok tt → validity_of n M ≡ Ok tt
rearranged_valid n L M p whole v =
    let o = valid_list n L v in
    let count : line_count M ≡ line_count L = sym (length_tabulate (line_count M) (line_at M)) ∙ sym (same_length p) ∙ length_tabulate (line_count L) (line_at L) in
    list_valid n M o.variables whole (omega (arith, count, o.count)) (lines_valid n (line_count M) (line_at M) 0 each)
  where
    each : (k : ℕ) → k < line_count M → line_validity_lem n 0 (line_at M k) ≡ Ok tt
    each k h =
        let r = includes (turned_back p) k (line_at M k) (line_at_law M k h) in
        let at = at_line L r.0 (line_at M k) r.1 in
        line_valid_more n n r.0 0 (line_at M k) (omega arith) (subst (λ (l : Line). line_validity_lem n r.0 l ≡ Ok tt) at.1 ((valid_list n L v).each r.0 at.0))
