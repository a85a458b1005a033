-- What a valid list grants: its limits, and of each line what the rules say; and what deciding asks of a list, which is less.
use Rattle.std.specs.Prelude.{◌≡◌, refl, Bool, true, false, not, cond, ◌&&◌, List, [], ◌∷◌, ◌++◌, ℕ, zero, suc, ◌+◌, ◌%◌, ◌<◌, ◌≤◌, ltb, eqb, ℤ, pos, nat_abs, length, drop, Err, Ok, Result}
use Rattle.std.proofs.Common.{sym, ap, subst, ◌∙◌, add-one, arith, ltb-false, le-ltb, eq-eqb, eqb-true, length-append}
use Rattle.std.proofs.Math.Decide.{dec_lt}
use Rattle.std.proofs.lemmas.Bool.{not-false}
use Rattle.std.specs.Int.Signed.{le_z, lt_z}
use Rattle.integers.specs.Integer.{◌⩽◌, ◌⋖◌, eq_z, is_between, is_within_lem, Within}
use Rattle.integers.proofs.Linear.{ints, given, given₂}
use Rattle.integers.specs.Laws.{never, and_true, ne_eq_z}
use Rattle.integers.proofs.Halving.{is_within}
use Rattle.integers.specs.Sequence.{tabulate}
use Rattle.lines.specs.declared.Line.{Line}
use Rattle.lines.specs.declared.Refusal.{Refusal}
use Rattle.lines.specs.declared.Refusal.TheVariants.{TooManyVariables, BrokenLength, TooManyLines, BadCoefficient, BadVariable, BadConstant, BadIdentifier}
use Rattle.lines.specs.Limits.{line_size, max_variables, max_lines, max_constant, shown_constant_lem, work_lines, work_constant, model_constant, max_identifier}
use Rattle.lines.specs.Line.{line_numbers_lem, line_at, line_count, lines_of}
use Rattle.lines.specs.Refusal.{number_of, ◌or_else◌, refuse_if, coefficients_ok_lem, variable_ok_lem, variables_ok_lem, constant_ok_lem, identifier_ok_lem, Rule, rules_within, line_rules, first_broken, rule_of, line_validity_lem, shown_validity_lem, lines_validity_lem, validity_of}
use Rattle.lines.specs.Laws.{validity_from}
use Rattle.lines.specs.LineNumbers.{length_numbers, count_append, line_left, line_last, lines_append}

pub record VariableOk (n : ℕ) (x : ℤ) : Type 0 where
  pub low : pos 0 ⩽ x
  pub high : x ⋖ pos n

pub variable_lt : (n : ℕ) (x : ℤ) → VariableOk n x → nat_abs x < n
variable_lt n x h = given₂ h.low h.high (simp ints (omega arith))

pub record IdentifierOk (i : ℤ) : Type 0 where
  pub low : pos 0 ⩽ i
  pub high : i ⩽ pos max_identifier

-- what the rules say of a line, with a limit for d
pub record LineWithin (most n : ℕ) (l : Line) : Type 0 where
  pub coefficient_a : Within 1 l.a
  pub coefficient_b : Within 1 l.b
  pub variable_x : (l.a ≡ pos 0 → ⊥) → VariableOk n l.x
  pub variable_y : (l.b ≡ pos 0 → ⊥) → VariableOk n l.y
  pub constant : Within most l.d
  pub identifier : IdentifierOk l.identifier

abbrev pub LineOk : ℕ → Line → Type 0
LineOk n l = LineWithin max_constant n l

-- what deciding asks of a line: d may pass its limit
abbrev pub LineWorks : ℕ → Line → Type 0
LineWorks n l = LineWithin work_constant n l

abbrev pub LinesOk : ℕ → List ℤ → Type 0
LinesOk n L = (k : ℕ) → k < line_count L → LineWorks n (line_at L k)

-- what deciding asks of a list, with a limit for each d: a valid one has it, and so has a valid one with the opposite of a line behind it
pub record WorkableWithin (most n : ℕ) (L : List ℤ) : Type 0 where
  pub variables : n ≤ max_variables
  pub whole : length L % line_size ≡ 0
  pub count : line_count L ≤ work_lines
  pub lines : (k : ℕ) → k < line_count L → LineWithin most n (line_at L k)

abbrev pub Workable : ℕ → List ℤ → Type 0
Workable n L = WorkableWithin work_constant n L

-- and where it writes the model
abbrev pub Modellable : ℕ → List ℤ → Type 0
Modellable n L = WorkableWithin model_constant n L

pub record ListOk (n : ℕ) (L : List ℤ) : Type 0 where
  pub variables : n ≤ max_variables
  pub whole : length L % line_size ≡ 0
  pub count : line_count L ≤ max_lines
  pub each : (k : ℕ) → k < line_count L → line_validity_lem n k (line_at L k) ≡ Ok tt
  pub lines : LinesOk n L

pub or_valid : (u v : Result Unit Refusal) → (u or_else v) ≡ Ok tt → (u ≡ Ok tt) × (v ≡ Ok tt)
or_valid (Ok _) v e = (refl, e)
or_valid (Err r) v e = never (cc)

pub not_refused : (t : Bool) (r : Refusal) → refuse_if t r ≡ Ok tt → t ≡ false
not_refused true r e = never (cc)
not_refused false r e = refl

variable_ok : (n : ℕ) (a x : ℤ) → variable_ok_lem n a x ≡ true → (a ≡ pos 0 → ⊥) → VariableOk n x
unfolding variable_ok_lem
variable_ok n a x e h =
    let t = and_true (le_z (pos 0) x) (lt_z x (pos n)) (ap (λ (b : Bool). cond b (eq_z x (pos 0)) (le_z (pos 0) x && lt_z x (pos n))) (sym (ne_eq_z a (pos 0) h)) ∙ e) in
    record { low = given t.0 (simp ints (omega arith)); high = given t.1 (simp ints (omega arith)) }

identifier_ok : (i : ℤ) → is_between (pos 0) (pos max_identifier) i ≡ true → IdentifierOk i
identifier_ok i e =
    let t = and_true (le_z (pos 0) i) (le_z i (pos max_identifier)) e in
    record { low = given t.0 (simp ints (omega arith)); high = given t.1 (simp ints (omega arith)) }

-- the rules of a line that none breaks
module _ (n k : ℕ) (l : Line) where
  holds : (r : Rule) {v : Result Unit Refusal} → (refuse_if (not (r.ok n l)) (r.refusal k) or_else v) ≡ Ok tt → (r.ok n l ≡ true) × (v ≡ Ok tt)
  holds r e = let p = or_valid _ _ e in (not-false _ (not_refused _ _ p.0), p.1)

  holds_in : (rs : List Rule) (refusal : ℕ → Refusal) → first_broken rs n k l ≡ Ok tt → rule_of refusal rs n l ≡ true
  holds_in [] refusal e = refl
  holds_in (r ∷ rs) refusal e = let h = holds r e in go (eqb (number_of (r.refusal 0)) (number_of (refusal 0))) h.0 (holds_in rs refusal h.1)
    where
      go : (t : Bool) → r.ok n l ≡ true → rule_of refusal rs n l ≡ true → cond t (r.ok n l) (rule_of refusal rs n l) ≡ true
      go true x y = x
      go false x y = y

  -- the rule that has this refusal holds
  rule_within : (most : ℕ) (refusal : ℕ → Refusal) → first_broken (rules_within (pos most)) n k l ≡ Ok tt → rule_of refusal (rules_within (pos most)) n l ≡ true
  rule_within most = holds_in (rules_within (pos most))

  pub rule_holds : (refusal : ℕ → Refusal) → line_validity_lem n k l ≡ Ok tt → rule_of refusal line_rules n l ≡ true
  rule_holds = rule_within max_constant

  -- rules that hold among m variables where they hold among n: none is broken there either, whatever the line's number is
  module _ (m j : ℕ) where
    abbrev HoldMore : List Rule → Type 0
    HoldMore [] = Unit {0}
    HoldMore (r ∷ rs) = (r.ok n l ≡ true → r.ok m l ≡ true) × HoldMore rs

    none_more : (rs : List Rule) → HoldMore rs → first_broken rs n k l ≡ Ok tt → first_broken rs m j l ≡ Ok tt
    none_more [] more e = refl
    none_more (r ∷ rs) more e = let h = holds r e in rw (more.0 h.0) (none_more rs more.1 h.1)

-- whatever the limit of d is
module _ (most n k : ℕ) (l : Line) (e : first_broken (rules_within (pos most)) n k l ≡ Ok tt) where
  pub variables_within : (variable_ok_lem n l.a l.x ≡ true) × (variable_ok_lem n l.b l.y ≡ true)
  unfolding variables_ok_lem
  variables_within = and_true (variable_ok_lem n l.a l.x) (variable_ok_lem n l.b l.y) (rule_within n k l most BadVariable e)

  pub line_within : LineWithin most n l
  unfolding coefficients_ok_lem constant_ok_lem identifier_ok_lem
  line_within =
      let c = and_true (is_within_lem 1 l.a) (is_within_lem 1 l.b) (rule_within n k l most BadCoefficient e) in
      let v = variables_within in
      record {
        coefficient_a = is_within 1 l.a c.0;
        coefficient_b = is_within 1 l.b c.1;
        variable_x = variable_ok n l.a l.x v.0;
        variable_y = variable_ok n l.b l.y v.1;
        constant = is_within most l.d (rule_within n k l most BadConstant e);
        identifier = identifier_ok l.identifier (rule_within n k l most BadIdentifier e);
      }

pub line_variables : (n k : ℕ) (l : Line) → line_validity_lem n k l ≡ Ok tt → (variable_ok_lem n l.a l.x ≡ true) × (variable_ok_lem n l.b l.y ≡ true)
line_variables = variables_within max_constant

pub line_ok : (n k : ℕ) (l : Line) → line_validity_lem n k l ≡ Ok tt → LineOk n l
line_ok = line_within max_constant

line_wider : (most more n : ℕ) (l : Line) → most ≤ more → LineWithin most n l → LineWithin more n l
line_wider most more n l small o =
    record {
      coefficient_a = o.coefficient_a;
      coefficient_b = o.coefficient_b;
      variable_x = o.variable_x;
      variable_y = o.variable_y;
      constant = record { low = given o.constant.low (simp ints (omega arith)); high = given o.constant.high (simp ints (omega arith)) };
      identifier = o.identifier;
    }

pub line_works : (most n : ℕ) (l : Line) → most ≤ work_constant → LineWithin most n l → LineWorks n l
line_works most = line_wider most work_constant

pub modellable_works : (n : ℕ) (L : List ℤ) → Modellable n L → Workable n L
modellable_works n L o =
    record { variables = o.variables; whole = o.whole; count = o.count; lines = λ k h. line_works model_constant n (line_at L k) (omega arith) (o.lines k h) }

module _ (n : ℕ) (L : List ℤ) (e : lines_validity_lem n 0 (lines_of L) ≡ Ok tt) where
  -- none is refused from line k on, so neither line k nor what comes after it is
  parts : (k : ℕ) → k < line_count L → lines_validity_lem n k (drop k (lines_of L)) ≡ Ok tt
      → (line_validity_lem n k (line_at L k) ≡ Ok tt) × (lines_validity_lem n (k + 1) (drop (k + 1) (lines_of L)) ≡ Ok tt)
  parts k h v = or_valid (line_validity_lem n k (line_at L k)) _ (sym (validity_from L n k h) ∙ v)

  from : (k : ℕ) → k ≤ line_count L → lines_validity_lem n k (drop k (lines_of L)) ≡ Ok tt
  from zero h = e
  from (suc k) h = rw (← add-one k) (parts k h (from k (omega arith))).1

  each_valid : (k : ℕ) → k < line_count L → line_validity_lem n k (line_at L k) ≡ Ok tt
  each_valid k h = (parts k h (from k (omega arith))).0

pub valid_list : (n : ℕ) (L : List ℤ) → validity_of n L ≡ Ok tt → ListOk n L
unfolding validity_of
valid_list n L e =
    let p = or_valid _ _ e in
    let q = or_valid _ _ p.1 in
    let r = or_valid _ _ q.1 in
    record {
      variables = ltb-false _ _ (not_refused _ _ p.0);
      whole = eqb-true _ _ (not-false _ (not_refused _ _ q.0));
      count = ltb-false _ _ (not_refused _ _ r.0);
      each = each_valid n L r.1;
      lines = λ k h. line_works max_constant n (line_at L k) (omega arith) (line_ok n k (line_at L k) (each_valid n L r.1 k h));
    }

-- of a valid list
module _ (most n : ℕ) (L : List ℤ) (wide : max_constant ≤ most) (e : validity_of n L ≡ Ok tt) where
  lines_within : (k : ℕ) → k < line_count L → LineWithin most n (line_at L k)
  lines_within k h = line_wider max_constant most n (line_at L k) wide (line_ok n k (line_at L k) ((valid_list n L e).each k h))

  works_within : WorkableWithin most n L
  works_within = let o = valid_list n L e in record { variables = o.variables; whole = o.whole; count = omega (arith, o.count); lines = lines_within }

  -- with a line more, of which all rules hold but that d may pass its limit
  pub works_more : (l : Line) → LineWithin most n l → WorkableWithin most n (L ++ line_numbers_lem l)
  works_more l ok =
      let o = valid_list n L e in
      let count : line_count (L ++ line_numbers_lem l) ≡ line_count L + 1 = omega (arith, count_append L (line_numbers_lem l) o.whole, length_numbers l) in
      record {
        variables = o.variables;
        whole = omega (arith, length-append L (line_numbers_lem l), length_numbers l, o.whole);
        count = omega (arith, count, o.count);
        lines = λ k h. go k h count (dec_lt k (line_count L));
      }
    where
      go : (k : ℕ) → k < line_count (L ++ line_numbers_lem l) → line_count (L ++ line_numbers_lem l) ≡ line_count L + 1 → Dec (k < line_count L) → LineWithin most n (line_at (L ++ line_numbers_lem l) k)
      go k h c (yes q) = subst (LineWithin most n) (sym (line_left L (line_numbers_lem l) (valid_list n L e).whole k q)) (lines_within k q)
      go k h c (no q) =
          let z : k ≡ line_count L = omega arith in
          subst (LineWithin most n) (sym (ap (line_at (L ++ line_numbers_lem l)) z ∙ line_last L l (valid_list n L e).whole)) ok

pub workable : (n : ℕ) (L : List ℤ) → validity_of n L ≡ Ok tt → Workable n L
workable n L e = works_within work_constant n L (omega arith) e

pub modellable : (n : ℕ) (L : List ℤ) → validity_of n L ≡ Ok tt → Modellable n L
modellable n L e = works_within model_constant n L (omega arith) e

-- and the other way round: what is within the limits, and has no line that breaks a rule, is valid
pub list_valid : (n : ℕ) (L : List ℤ) → n ≤ max_variables → length L % line_size ≡ 0 → line_count L ≤ max_lines → lines_validity_lem n 0 (lines_of L) ≡ Ok tt → validity_of n L ≡ Ok tt
unfolding validity_of
list_valid n L few whole count lines = rw (le-ltb max_variables n few, eq-eqb (length L % line_size) 0 whole, le-ltb max_lines (line_count L) count, lines)

-- ---- a list of whole lines with which a valid list begins is valid
front_valid : (n k : ℕ) (ls ms : List Line) → lines_validity_lem n k (ls ++ ms) ≡ Ok tt → lines_validity_lem n k ls ≡ Ok tt
unfolding lines_validity_lem
front_valid n k [] ms e = refl
front_valid n k (l ∷ ls) ms e = let p = or_valid (line_validity_lem n k l) _ e in rw p.0 (front_valid n (k + 1) ls ms p.1)

pub shorter_valid : (n : ℕ) (L M : List ℤ) → length L % line_size ≡ 0 → validity_of n (L ++ M) ≡ Ok tt → validity_of n L ≡ Ok tt
unfolding validity_of
shorter_valid n L M whole e =
    let o = valid_list n (L ++ M) e in
    let p = or_valid (refuse_if (ltb max_variables n) TooManyVariables) _ e in
    let q = or_valid (refuse_if (not (eqb (length (L ++ M) % line_size) 0)) BrokenLength) _ p.1 in
    let all = (or_valid (refuse_if (ltb max_lines (line_count (L ++ M))) TooManyLines) _ q.1).1 in
    let few : line_count L ≤ max_lines = omega (arith, o.count, count_append L M whole) in
    list_valid n L o.variables whole few (front_valid n 0 (lines_of L) (lines_of M) (ap (lines_validity_lem n 0) (sym (lines_append L M whole)) ∙ all))

-- what is right among n variables is right among more
variable_more : (n m : ℕ) (x : ℤ) → n ≤ m → VariableOk n x → VariableOk m x
variable_more n m x h v = record { low = v.low; high = given v.high (simp ints (omega arith)) }

pub lines_more : (n m : ℕ) (L : List ℤ) → n ≤ m → LinesOk n L → LinesOk m L
lines_more n m L h ok k l =
    let o = ok k l in
    record {
      coefficient_a = o.coefficient_a;
      coefficient_b = o.coefficient_b;
      variable_x = λ z. variable_more n m _ h (o.variable_x z);
      variable_y = λ z. variable_more n m _ h (o.variable_y z);
      constant = o.constant;
      identifier = o.identifier;
    }

variable_ok_more : (n m : ℕ) (a x : ℤ) → n ≤ m → variable_ok_lem n a x ≡ true → variable_ok_lem m a x ≡ true
unfolding variable_ok_lem
variable_ok_more n m a x h = go (eq_z a (pos 0))
  where
    go : (b : Bool) → cond b (eq_z x (pos 0)) (le_z (pos 0) x && lt_z x (pos n)) ≡ true → cond b (eq_z x (pos 0)) (le_z (pos 0) x && lt_z x (pos m)) ≡ true
    go true e = e
    go false e =
        let t = and_true (le_z (pos 0) x) (lt_z x (pos n)) e in
        let l : lt_z x (pos m) ≡ true = given t.1 (simp ints (omega arith)) in
        rw (t.0, l)

variables_more : (n m : ℕ) (l : Line) → n ≤ m → variables_ok_lem n l ≡ true → variables_ok_lem m l ≡ true
unfolding variables_ok_lem
variables_more n m l h e =
    let v = and_true (variable_ok_lem n l.a l.x) (variable_ok_lem n l.b l.y) e in
    let x : variable_ok_lem m l.a l.x ≡ true = variable_ok_more n m _ _ h v.0 in
    let y : variable_ok_lem m l.b l.y ≡ true = variable_ok_more n m _ _ h v.1 in
    rw (x, y)

-- whatever the line's number is
pub line_valid_more : (n m k j : ℕ) (l : Line) → n ≤ m → line_validity_lem n k l ≡ Ok tt → line_validity_lem m j l ≡ Ok tt
line_valid_more n m k j l h = none_more n k l m j line_rules (search (variables_more n m l h))

pub shown_anywhere : (n k j : ℕ) (l : Line) → shown_validity_lem n k l ≡ Ok tt → shown_validity_lem n j l ≡ Ok tt
shown_anywhere n k j l = none_more n k l n j (rules_within (pos (shown_constant_lem n))) (search (variables_more n n l))

-- lines of which none breaks a rule, whatever their numbers are
pub lines_valid : (n c : ℕ) (f : ℕ → Line) (k : ℕ) → ((i : ℕ) → i < c → line_validity_lem n 0 (f i) ≡ Ok tt) → lines_validity_lem n k (tabulate c f) ≡ Ok tt
unfolding lines_validity_lem
lines_valid n zero f k h = refl
lines_valid n (suc c) f k h =
    let first : line_validity_lem n k (f 0) ≡ Ok tt = line_valid_more n n 0 k (f 0) (omega arith) (h 0 (omega arith)) in
    rw first (lines_valid n c (λ i. f (suc i)) (k + 1) (λ i l. h (suc i) (omega arith)))

-- the same of some lines
abbrev pub AllOk : ℕ → List Line → Type 0
AllOk n [] = Unit {0}
AllOk n (l ∷ ls) = LineWorks n l × AllOk n ls

pub all_ok : (n : ℕ) (L : List ℤ) → LinesOk n L → AllOk n (lines_of L)
all_ok n L ok = go (line_count L) (line_at L) ok
  where
    go : (c : ℕ) (f : ℕ → Line) → ((k : ℕ) → k < c → LineWorks n (f k)) → AllOk n (tabulate c f)
    go zero f h = tt
    go (suc c) f h = (h 0 (omega arith), go c (λ k. f (suc k)) (λ k l. h (suc k) (omega arith)))
