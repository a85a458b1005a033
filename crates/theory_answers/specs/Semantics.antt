-- What the section "Yes" of docs/SPECIFICATION.md says, without any algorithm: the one model, least and greatest values, groups.
use Rattle.std.specs.Prelude.{◌≡◌, ◌⊎◌, List, ℕ, ◌+◌, ◌*◌, ◌≤◌, ◌<◌, ℤ, pos, neg_ℤ, nat_abs, ◌+ℤ◌, length, get_or}
use Rattle.integers.specs.Integer.{◌⩽◌}
use Rattle.lines.specs.declared.Line.{Line}
use Rattle.lines.specs.Limits.{absent_least, absent_greatest}
use Rattle.lines.specs.Line.{Assignment, assignment_of, Solves}
use Rattle.steps.specs.Point.{signed}

-- t agrees with s on all variables before k
abbrev pub Agrees : ℕ → Assignment → Assignment → Type 0
Agrees k t s = (x : ℕ) → x < k → t x ≡ s x

-- Variables in number order. Each takes the value nearest zero among the values that it has in solutions agreeing with all earlier choices.
pub record IsModel (n : ℕ) (ls : List Line) (m : Assignment) : Type 0 where
  pub solves : Solves ls m
  pub nearest : (k : ℕ) → k < n → (t : Assignment) → Solves ls t → Agrees k t m → nat_abs (m k) ≤ nat_abs (t k)

-- a form: a number that each assignment gives
abbrev pub Form : Type 0
Form = Assignment → ℤ

-- the value of x
abbrev pub value_of : ℕ → Form
value_of x t = t x

-- the sum of x and y, each with a sign (0 is plus, 1 is minus): x + y, x − y, −x + y or −x − y
abbrev pub sum_of : (s x u y : ℕ) → Form
sum_of s x u y t = signed s (t x) +ℤ signed u (t y)

-- z is the greatest value of a form over all integer solutions
pub record IsGreatest (ls : List Line) (form : Form) (z : ℤ) : Type 0 where
  pub bounds : (t : Assignment) → Solves ls t → form t ⩽ z
  pub taken_by : Assignment
  pub solves : Solves ls taken_by
  pub taken : form taken_by ≡ z

-- there is none: the values pass every bound
pub record NoGreatest (ls : List Line) (form : Form) : Type 0 where
  pub beyond : (z : ℤ) → (t : Assignment) × Solves ls t × (z ⩽ form t)

-- z is the least value of x over all integer solutions
pub record IsLeast (ls : List Line) (x : ℕ) (z : ℤ) : Type 0 where
  pub bounds : (t : Assignment) → Solves ls t → z ⩽ t x
  pub taken_by : Assignment
  pub solves : Solves ls taken_by
  pub taken : taken_by x ≡ z

pub record NoLeast (ls : List Line) (x : ℕ) : Type 0 where
  pub beyond : (z : ℤ) → (t : Assignment) × Solves ls t × (t x ⩽ z)

-- x and y have the same value in every integer solution
abbrev pub Equal : List Line → ℕ → ℕ → Type 0
Equal ls x y = (t : Assignment) → Solves ls t → t x ≡ t y

-- each has the other's value negated, in every integer solution
abbrev pub Mirrored : List Line → ℕ → ℕ → Type 0
Mirrored ls x y = (t : Assignment) → Solves ls t → t x ≡ neg_ℤ (t y)

-- x is 0 in every integer solution
abbrev pub AlwaysZero : List Line → ℕ → Type 0
AlwaysZero ls x = (t : Assignment) → Solves ls t → t x ≡ pos 0

-- x is r with this sign (0 is plus, 1 is minus) in every integer solution: with plus that is `Equal`, with minus `Mirrored`
abbrev pub Together : List Line → ℕ → ℕ → ℕ → Type 0
Together ls x r sign = (t : Assignment) → Solves ls t → t x ≡ signed sign (t r)

-- r is the lowest variable number that x is together with, with either sign; the sign is plus where both hold
pub record IsGroup (ls : List Line) (x r sign : ℕ) : Type 0 where
  pub a_sign : sign < 2
  pub together : Together ls x r sign
  pub lowest : (q : ℕ) → q < r → (s : ℕ) → Together ls x q s → ⊥
  pub plus : Together ls x r 0 → sign ≡ 0

-- ---- as the numbers written
abbrev pub LeastWritten : List Line → ℕ → ℤ → Type 0
LeastWritten ls x w = IsLeast ls x w ⊎ (NoLeast ls x × (w ≡ absent_least))

abbrev pub GreatestWritten : List Line → Form → ℤ → Type 0
GreatestWritten ls form w = IsGreatest ls form w ⊎ (NoGreatest ls form × (w ≡ absent_greatest))

-- of each variable its group variable, then its sign
abbrev pub group_variable : List ℕ → ℕ → ℕ
group_variable groups x = get_or groups (2 * x) 0

abbrev pub group_sign : List ℕ → ℕ → ℕ
group_sign groups x = get_or groups (2 * x + 1) 0

-- two variables with one group variable; with one sign
abbrev pub SameVariable : List ℕ → ℕ → ℕ → Type 0
SameVariable groups x y = group_variable groups x ≡ group_variable groups y

abbrev pub SameSign : List ℕ → ℕ → ℕ → Type 0
SameSign groups x y = group_sign groups x ≡ group_sign groups y

-- written on a yes: the model; for each variable its least, then its greatest value; the groups
pub record Written (n : ℕ) (ls : List Line) (model bounds : List ℤ) (groups : List ℕ) : Type 0 where
  pub model_length : length model ≡ n
  pub model_is : IsModel n ls (assignment_of model)
  pub bounds_length : length bounds ≡ 2 * n
  pub least_is : (x : ℕ) → x < n → LeastWritten ls x (get_or bounds (2 * x) (pos 0))
  pub greatest_is : (x : ℕ) → x < n → GreatestWritten ls (value_of x) (get_or bounds (2 * x + 1) (pos 0))
  pub groups_length : length groups ≡ 2 * n
  pub group_is : (x : ℕ) → x < n → IsGroup ls x (group_variable groups x) (group_sign groups x)
