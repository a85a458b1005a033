-- The list of a choice that is found in the numbers of a tree, and what writing it asks and leaves.
use Rattle.std.specs.Prelude.{◌≡◌, refl, Bool, true, false, List, [], ◌∷◌, ◌++◌, eqb, ℤ, pos, length, get_or, set, take, drop, replicate, Ok}
use Rattle.std.proofs.Math.Path.{sym, ap}
use Rattle.std.proofs.Common.{subst, ◌∙◌, eqb-true, length-set, get_or-set_same, get_or-set_other, take_at}
use Rattle.std.proofs.Math.Bool.{cond}
use Prim.Native.Nat.{ℕ, ◌/◌, ◌%◌, ◌<◌, ◌≤◌}
use native.Mathlib.Omega.{arith}
use Rattle.std.proofs.lemmas.Bool.{eqb-false}
use Rattle.std.proofs.Math.ListN.{length-replicate}
use Rattle.std.proofs.lemmas.List.{get_or-replicate}
use Rattle.integers.specs.Sequence.{tabulate_cong}
use Rattle.lines.specs.Limits.{line_size, max_lines}
use Rattle.lines.specs.Line.{number, line_count}
use Rattle.tree_reading.specs.declared.Node.{Node}
use Rattle.tree_reading.specs.declared.Kind.TheVariants.{AllOf}
use Rattle.tree_reading.specs.Tree.{max_depth}
use Rattle.tree_reading.specs.Reading.{valid_tree_lem}
use Rattle.tree_reading.specs.Taken.{tree_in}
use Rattle.tree_choices.specs.Choosing.{marked, chosen}
use Rattle.tree_choices.specs.Chosen.{picked}
use Rattle.tree_lists.specs.Masked.{masked_number_lem, masked, masked_into, with_room, same_length}
use Rattle.tree_lists.specs.Condition.{flags_of, choice_list}

-- the lines that choice k picks in a tree with these numbers and so many choices, over m lines
abbrev pub numbered_lines : List ℕ → ℕ → ℕ → ℕ → List ℕ
numbered_lines s m total k = chosen s m max_depth AllOf 0 total k

-- the list of these lines
unfoldable pub numbered_list : List ℕ → List ℤ → ℕ → ℕ → List ℤ
numbered_list s L total k = masked (flags_of (line_count L) (numbered_lines s (line_count L) total k)) L

-- it is that of the choice
pub numbered_list_law : (s : List ℕ) (L : List ℤ) (b : Node) → valid_tree_lem s (line_count L) ≡ Ok b → (k : ℕ) → k < b.choices
    → numbered_list s L b.choices k ≡ choice_list L (tree_in s (line_count L)) k
unfolding numbered_list choice_list
numbered_list_law s L b e k l = ap (λ (lines : List ℕ). masked (flags_of (line_count L) lines) L) (picked s (line_count L) b e k l)

pub numbered_length : (s : List ℕ) (L : List ℤ) (total k : ℕ) → length (numbered_list s L total k) ≡ length L
unfolding numbered_list
numbered_length s L total k = same_length (flags_of (line_count L) (numbered_lines s (line_count L) total k)) L

-- what begins with it, up to its end
pub numbered_front : (s : List ℕ) (L : List ℤ) (total k : ℕ) (out rest : List ℤ) → out ≡ numbered_list s L total k ++ rest → take (length L) out ≡ numbered_list s L total k
numbered_front s L total k out rest e = ap (take (length L)) e ∙ take_at (numbered_list s L total k) rest (length L) (numbered_length s L total k)

-- ---- more flags than lines say the same of the lines
same_flag : (k : ℕ) (p q xs : List ℕ) → k < length p → k < length q → get_or p k 0 ≡ get_or q k 0 → get_or (marked p xs) k 0 ≡ get_or (marked q xs) k 0
unfolding marked
same_flag k p q [] h i e = e
same_flag k p q (x ∷ xs) h i e =
    same_flag k (set p x 1) (set q x 1) xs (omega (arith, length-set p x 1)) (omega (arith, length-set q x 1)) (go (eqb k x) refl)
  where
    go : (t : Bool) → eqb k x ≡ t → get_or (set p x 1) k 0 ≡ get_or (set q x 1) k 0
    go true j =
        let z : k ≡ x = eqb-true k x j in
        subst (λ (y : ℕ). get_or (set p y 1) k 0 ≡ get_or (set q y 1) k 0) z (get_or-set_same p k 1 0 h ∙ sym (get_or-set_same q k 1 0 i))
    go false j = let n : k ≡ x → ⊥ = eqb-false k x j in get_or-set_other p x k 1 0 n ∙ e ∙ sym (get_or-set_other q x k 1 0 n)

module _ (L : List ℤ) (xs : List ℕ) (m : ℕ) (whole : length L % line_size ≡ 0) (few : line_count L ≤ m) where
  same_number : (i : ℕ) → i < length L → masked_number_lem (flags_of m xs) L i ≡ masked_number_lem (flags_of (line_count L) xs) L i
  unfolding masked_number_lem
  same_number i h =
      let k : ℕ = i / line_size in
      let l : k < line_count L = line_of i (length L) whole h in
      let j : k < m = omega arith in
      ap (λ (f : ℕ). cond (eqb f 1) (number L i) (pos 0))
      (same_flag k (replicate m 0) (replicate (line_count L) 0) xs (omega (arith, length-replicate {A = ℕ} m 0)) (omega (arith, length-replicate {A = ℕ} (line_count L) 0))
      (get_or-replicate m k 0 0 j ∙ sym (get_or-replicate (line_count L) k 0 0 l)))
    where
      line_of : (i n : ℕ) → n % line_size ≡ 0 → i < n → i / line_size < n / line_size
      line_of i n w h = omega arith

  more_flags : masked (flags_of m xs) L ≡ masked (flags_of (line_count L) xs) L
  more_flags = tabulate_cong (length L) _ _ same_number

-- ---- writing it
pub record ChoiceReady (L out : List ℤ) : Type 0 where
  pub whole : length L % line_size ≡ 0
  pub few : line_count L ≤ max_lines
  pub room : length L ≤ length out

pub written : (s : List ℕ) (L out : List ℤ) (total k : ℕ) → ChoiceReady L out
    → masked_into (flags_of max_lines (numbered_lines s (line_count L) total k)) L out ≡ numbered_list s L total k ++ drop (length L) out
unfolding numbered_list
written s L out total k r =
    with_room (flags_of max_lines (numbered_lines s (line_count L) total k)) L out r.room
    ∙ ap (λ (M : List ℤ). M ++ drop (length L) out) (more_flags L (numbered_lines s (line_count L) total k) max_lines r.whole r.few)
