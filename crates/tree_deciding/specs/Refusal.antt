-- The number and the place of each refusal of a question about a tree, by which it is known: deciding's and the tree's have no number in common.
use Rattle.std.specs.Prelude.{◌≡◌, refl, false, ℕ, ◌/◌, ◌<◌, eqb}
use Rattle.std.proofs.Common.{sym, ap, ◌∙◌, arith, eq-eqb}
use Rattle.std.proofs.lemmas.Bool.{false≢true}
use Rattle.lines.specs.declared.Numbered.{Numbered}
use Rattle.lines.specs.declared.Refusal.{Refusal}
use Rattle.lines.specs.declared.Refusal.TheVariants.{TooManyVariables, BrokenLength, TooManyLines, BadCoefficient, BadVariable, BadConstant, ShortOutput, ShortWorkArea, WrongModelLength, BadValue, LongRefutation, MisplacedCoefficient, BadIdentifier, AfterNo, NoLines, NotDifference}
use Rattle.lines.specs.Refusal.{number_and_place, number_of}
use Rattle.lines.specs.Numbers.{number_some}
use Rattle.lines.specs.Numbers as lines
use Rattle.tree_reading.specs.declared.TreeRefusal.{TreeRefusal}
use Rattle.tree_reading.specs.declared.TreeRefusal.TheVariants.{TooManyChoices, Malformed, TooDeep, NoSuchChoice}
use Rattle.tree_reading.specs.Refusal.{tree_number_and_place, tree_number}
use Rattle.tree_reading.specs.Refusal as trees
use Rattle.tree_deciding.specs.declared.ConditionRefusal.{ConditionRefusal}
use Rattle.tree_deciding.specs.declared.ConditionRefusal.TheVariants.{Deciding, Tree}

abbrev pub condition_number_and_place : ConditionRefusal → Numbered
condition_number_and_place (Deciding r) = number_and_place r
condition_number_and_place (Tree r) = tree_number_and_place r

abbrev pub condition_number : ConditionRefusal → ℕ
condition_number r = (condition_number_and_place r).number

abbrev pub condition_place : ConditionRefusal → ℕ
condition_place r = (condition_number_and_place r).place

-- ---- those of a tree have these tens, and no other has
abbrev tens : ℕ
tens = 4

tree_tens : (r : TreeRefusal) → tree_number r / 10 ≡ tens
tree_tens (TooManyChoices k) = refl
tree_tens (Malformed k) = refl
tree_tens (TooDeep k) = refl
tree_tens NoSuchChoice = refl

other_tens : (r : Refusal) → eqb (number_of r / 10) tens ≡ false
other_tens TooManyVariables = refl
other_tens BrokenLength = refl
other_tens TooManyLines = refl
other_tens (BadCoefficient k) = refl
other_tens (BadVariable k) = refl
other_tens (BadConstant k) = refl
other_tens (ShortOutput k) = refl
other_tens ShortWorkArea = refl
other_tens WrongModelLength = refl
other_tens (BadValue k) = refl
other_tens LongRefutation = refl
other_tens (MisplacedCoefficient k) = refl
other_tens (BadIdentifier k) = refl
other_tens AfterNo = refl
other_tens NoLines = refl
other_tens (NotDifference k) = refl

no_number : (r : Refusal) (t : TreeRefusal) → number_of r ≡ tree_number t → ⊥
no_number r t e = false≢true (sym (other_tens r) ∙ eq-eqb (number_of r / 10) tens (ap (λ (k : ℕ). k / 10) e ∙ tree_tens t))

-- 0 stands for none
pub condition_some : (r : ConditionRefusal) → 0 < condition_number r
condition_some (Deciding r) = number_some r
condition_some (Tree r) = omega (arith, tree_tens r)

pub one_condition : (r s : ConditionRefusal) → condition_number r ≡ condition_number s → condition_place r ≡ condition_place s → r ≡ s
one_condition (Deciding r) (Deciding s) e f = ap Deciding (lines.one_refusal r s e f)
one_condition (Deciding r) (Tree s) e f = absurd (no_number r s e)
one_condition (Tree r) (Deciding s) e f = absurd (no_number s r (sym e))
one_condition (Tree r) (Tree s) e f = ap Tree (trees.one_refusal r s e f)
