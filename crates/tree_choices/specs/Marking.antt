-- Marking the lines of a choice one child after the other: what the loops of both choosers keep.
use Rattle.std.specs.Prelude.{◌≡◌, ltb, length, set, Err, Ok, Result}
use Rattle.std.proofs.Math.Path.{refl, ap}
use Rattle.std.proofs.Common.{sym, ◌∙◌, lt-ltb, le-ltb, length-set}
use Rattle.std.proofs.Math.Bool.{cond}
use mathlib.Core.List.{List, [], ◌∷◌, ◌++◌}
use Prim.Native.Nat.{ℕ, zero, suc, ◌+◌, ◌-◌, ◌/◌, ◌%◌, ◌<◌, ◌≤◌}
use native.Mathlib.Omega.{arith}
use Rattle.std.proofs.Math.ListN.{get_or}
use Rattle.tree_reading.specs.declared.Kind.{Kind}
use Rattle.tree_reading.specs.declared.Kind.TheVariants.{AllOf, AnyOf}
use Rattle.tree_reading.specs.Tree.{other, code_of}
use Rattle.tree_reading.specs.declared.TreeRefusal.{TreeRefusal}
use Rattle.tree_reading.specs.declared.TreeRefusal.TheVariants.{TooDeep, NoSuchChoice}
use Rattle.tree_reading.specs.declared.Head.TheVariants.{Line, Children}
use Rattle.tree_reading.specs.declared.Node.{Node}
use Rattle.tree_reading.specs.Reading.{head_of, node_of, valid_tree_lem}
use Rattle.tree_reading.specs.Running.{node_at}
use Rattle.tree_choices.specs.Choosing.{marked, from_child, all_chosen, any_chosen, row_chosen, chosen_at, chosen, with_choice, choice_of}

pub marked_append : (p xs ys : List ℕ) → marked p (xs ++ ys) ≡ marked (marked p xs) ys
unfolding marked
marked_append p [] ys = refl
marked_append p (i ∷ is) ys = marked_append (set p i 1) is ys

pub marked_one : (p : List ℕ) (i : ℕ) → marked p (i ∷ []) ≡ set p i 1
unfolding marked
marked_one p i = refl

pub marked_none : (p : List ℕ) → marked p [] ≡ p
unfolding marked
marked_none p = refl

pub length_marked : (p xs : List ℕ) → length (marked p xs) ≡ length p
unfolding marked
length_marked p [] = refl
length_marked p (i ∷ is) = length_marked (set p i 1) is ∙ length-set p i 1

-- ---- one child
module _ (f : ℕ → Result Node TreeRefusal) (g : ℕ → ℕ → ℕ → List ℕ) where
  all_more : (j at total n : ℕ) (b : Node) → f at ≡ Ok b
      → all_chosen f g (suc j) at total n ≡ g at b.choices (n / (total / b.choices)) ++ all_chosen f g j b.end (total / b.choices) (n % (total / b.choices))
  unfolding all_chosen
  all_more j at total n b e =
      ap (from_child (λ (x : Node). g at x.choices (n / (total / x.choices)) ++ all_chosen f g j x.end (total / x.choices) (n % (total / x.choices)))) e

  any_more : (j at n : ℕ) (b : Node) → f at ≡ Ok b → any_chosen f g (suc j) at n ≡ cond (ltb n b.choices) (g at b.choices n) (any_chosen f g j b.end (n - b.choices))
  unfolding any_chosen
  any_more j at n b e = ap (from_child (λ (x : Node). cond (ltb n x.choices) (g at x.choices n) (any_chosen f g j x.end (n - x.choices)))) e

  row_stop : (k : Kind) (j at total n : ℕ) (r : TreeRefusal) → 0 < j → f at ≡ Err r → row_chosen f g k j at total n ≡ []
  unfolding all_chosen any_chosen
  row_stop k zero at total n r h e = absurd (omega arith)
  row_stop AllOf (suc j) at total n r h e = ap (from_child _) e
  row_stop AnyOf (suc j) at total n r h e = ap (from_child _) e

  row_none : (k : Kind) (j at total n : ℕ) → j ≡ 0 → row_chosen f g k j at total n ≡ []
  unfolding all_chosen any_chosen
  row_none AllOf zero at total n e = refl
  row_none AnyOf zero at total n e = refl
  row_none k (suc j) at total n e = absurd (omega arith)

-- ---- the loops
module _ (s : List ℕ) (m d : ℕ) (k : Kind) (at total n : ℕ) (flags : List ℕ) where
  pub chosen_line : head_of s m d (code_of k) at ≡ Ok Line → marked flags (chosen s m d k at total n) ≡ set flags (get_or s (at + 1) 0) 1
  unfolding chosen
  chosen_line e = ap (marked flags) (go d e) ∙ marked_one flags (get_or s (at + 1) 0)
    where
      go : (d : ℕ) → head_of s m d (code_of k) at ≡ Ok Line → chosen s m d k at total n ≡ get_or s (at + 1) 0 ∷ []
      go zero e = ap (chosen_at (λ p. Err (TooDeep p)) (λ p c i. []) s k at total n) e
      go (suc d) e = ap (chosen_at (node_of s m d (other k)) (chosen s m d (other k)) s k at total n) e

  pub chosen_wrong : (r : TreeRefusal) → head_of s m d (code_of k) at ≡ Err r → marked flags (chosen s m d k at total n) ≡ flags
  unfolding chosen
  chosen_wrong r e = ap (marked flags) (go d e) ∙ marked_none flags
    where
      go : (d : ℕ) → head_of s m d (code_of k) at ≡ Err r → chosen s m d k at total n ≡ []
      go zero e = ap (chosen_at (λ p. Err (TooDeep p)) (λ p c i. []) s k at total n) e
      go (suc d) e = ap (chosen_at (node_of s m d (other k)) (chosen s m d (other k)) s k at total n) e

  -- so many children are left, from here on, with so many choices, and these flags are set
  pub record Marking (left p rest number : ℕ) (now : List ℕ) : Type 0 where
    pub levels : 0 < d
    pub sized : length now ≡ length flags
    pub same : marked flags (chosen s m d k at total n) ≡ marked now (row_chosen (node_of s m (d - 1) (other k)) (chosen s m (d - 1) (other k)) k left p rest number)

  pub begins : (j : ℕ) → head_of s m d (code_of k) at ≡ Ok (Children j) → Marking j (at + 2) total n flags
  unfolding chosen
  begins j e = record { levels = (node_at s m d k at j e).levels; sized = refl; same = ap (marked flags) (go d e (node_at s m d k at j e).levels) }
    where
      go : (d : ℕ) → head_of s m d (code_of k) at ≡ Ok (Children j) → 0 < d
          → chosen s m d k at total n ≡ row_chosen (node_of s m (d - 1) (other k)) (chosen s m (d - 1) (other k)) k j (at + 2) total n
      go zero e h = absurd (omega arith)
      go (suc d) e h =
          let q : d ≡ suc d - 1 = omega arith in
          ap (chosen_at (node_of s m d (other k)) (chosen s m d (other k)) s k at total n) e
          ∙ ap (λ (i : ℕ). row_chosen (node_of s m i (other k)) (chosen s m i (other k)) k j (at + 2) total n) q

  module _ (left p rest number : ℕ) (now : List ℕ) (h : Marking left p rest number now) where
    pub ends : left ≡ 0 → now ≡ marked flags (chosen s m d k at total n)
    ends e = sym (h.same ∙ ap (marked now) (row_none _ _ k left p rest number e) ∙ marked_none now)

    pub stops : (r : TreeRefusal) → 0 < left → node_of s m (d - 1) (other k) p ≡ Err r → now ≡ marked flags (chosen s m d k at total n)
    stops r l e = sym (h.same ∙ ap (marked now) (row_stop _ _ k left p rest number r l e) ∙ marked_none now)

module _ (s : List ℕ) (m d at total n : ℕ) (flags : List ℕ) (left p rest number : ℕ) (now after : List ℕ) (b : Node) where
  -- a factor
  pub next_factor : (next : ℕ) → left ≡ suc next → Marking s m d AllOf at total n flags left p rest number now → node_of s m (d - 1) AnyOf p ≡ Ok b
      → after ≡ marked now (chosen s m (d - 1) AnyOf p b.choices (number / (rest / b.choices)))
      → Marking s m d AllOf at total n flags next b.end (rest / b.choices) (number % (rest / b.choices)) after
  next_factor next l h e q =
      record {
        levels = h.levels;
        sized = ap length q ∙ length_marked now _ ∙ h.sized;
        same = h.same
            ∙ ap (λ (j : ℕ). marked now (all_chosen (node_of s m (d - 1) AnyOf) (chosen s m (d - 1) AnyOf) j p rest number)) l
            ∙ ap (marked now) (all_more _ _ next p rest number b e)
            ∙ marked_append now _ _
            ∙ ap (λ (x : List ℕ). marked x (all_chosen (node_of s m (d - 1) AnyOf) (chosen s m (d - 1) AnyOf) next b.end (rest / b.choices) (number % (rest / b.choices)))) (sym q);
      }

  -- a branch that is passed, and the one that is taken
  pub next_branch : (next : ℕ) → left ≡ suc next → Marking s m d AnyOf at total n flags left p rest number now → node_of s m (d - 1) AllOf p ≡ Ok b → b.choices ≤ number
      → Marking s m d AnyOf at total n flags next b.end rest (number - b.choices) now
  next_branch next l h e q =
      let t : any_chosen (node_of s m (d - 1) AllOf) (chosen s m (d - 1) AllOf) left p number ≡ any_chosen (node_of s m (d - 1) AllOf) (chosen s m (d - 1) AllOf) next b.end (number - b.choices)
      = ap (λ (j : ℕ). any_chosen (node_of s m (d - 1) AllOf) (chosen s m (d - 1) AllOf) j p number) l ∙ any_more _ _ next p number b e ∙ rw (le-ltb _ _ q) in
      record { levels = h.levels; sized = h.sized; same = h.same ∙ ap (marked now) t }

  pub branch_taken : 0 < left → Marking s m d AnyOf at total n flags left p rest number now → node_of s m (d - 1) AllOf p ≡ Ok b → number < b.choices
      → after ≡ marked now (chosen s m (d - 1) AllOf p b.choices number) → after ≡ marked flags (chosen s m d AnyOf at total n)
  branch_taken l h e q u =
      let next : left ≡ suc (left - 1) = omega arith in
      let t : any_chosen (node_of s m (d - 1) AllOf) (chosen s m (d - 1) AllOf) left p number ≡ chosen s m (d - 1) AllOf p b.choices number
      = ap (λ (j : ℕ). any_chosen (node_of s m (d - 1) AllOf) (chosen s m (d - 1) AllOf) j p number) next ∙ any_more _ _ (left - 1) p number b e ∙ rw (lt-ltb _ _ q) in
      u ∙ sym (h.same ∙ ap (marked now) t)

-- ---- a choice of the whole tree
module _ (s : List ℕ) (m n : ℕ) where
  pub choice_refused : (r : TreeRefusal) → valid_tree_lem s m ≡ Err r → choice_of s m n ≡ Err r
  unfolding choice_of
  choice_refused r e = ap (with_choice n) e

  pub choice_missing : (b : Node) → valid_tree_lem s m ≡ Ok b → b.choices ≤ n → choice_of s m n ≡ Err NoSuchChoice
  unfolding choice_of
  choice_missing b e h = ap (with_choice n) e ∙ rw (le-ltb _ _ h)

  pub choice_there : (b : Node) → valid_tree_lem s m ≡ Ok b → n < b.choices → choice_of s m n ≡ Ok b
  unfolding choice_of
  choice_there b e h = ap (with_choice n) e ∙ rw (lt-ltb _ _ h)
