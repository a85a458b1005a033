-- `session_answer::answer_learnt` meets its contract: by the table where the line is learnt, else by deciding.
use mathlib.Core.Path.{sym, ◌∙◌}
use mathlib.Core.List.{List}
use Prim.Native.Nat.{ℕ}
use borrow.Author.Rules.{rules}
use lib.IntN.{ℤ}
use Rattle.decide_buffers.specs.Room.{Lent}
use Rattle.session_answer.specs.Answers.{learn_ready, yes_ready, answers_yes, answers_decided}
use Rattle.session_answer.proofs.answer_learnt.Goals.{After-learn_in, Start}
use Rattle.session_answer.proofs.answer_learnt.Goals as goal

-- what was lent
module _ (begin : Start) where
  abbrev n : ℕ
  n = begin.args.n

  abbrev list : List ℤ
  list = begin.args.list.now

  abbrev k : ℕ
  k = begin.args.k

  abbrev state : List ℤ
  state = begin.args.state.now

  abbrev lent : Lent
  lent =
      record {
        model = begin.args.model.now;
        bounds = begin.args.bounds.now;
        groups = begin.args.groups.now;
        refutation = begin.args.refutation.now;
        identifiers = begin.args.identifiers.now;
        work = begin.args.work.now;
      }

pub learn_in-requires : goal.learn_in-requires
learn_in-requires c = learn_ready (n (goal.at.learn_in-requires c).Start) (list (goal.at.learn_in-requires c).Start) (k (goal.at.learn_in-requires c).Start) (state (goal.at.learn_in-requires c).Start) (lent (goal.at.learn_in-requires c).Start) c.requires

-- the line was learnt, or not
module _ (d : After-learn_in) where
  abbrev after : List ℤ
  after = d.learn_in.new.state

pub write_yes-requires : goal.write_yes-requires
write_yes-requires c =
    yes_ready (n (goal.at.write_yes-requires c).Start) (list (goal.at.write_yes-requires c).Start) (k (goal.at.write_yes-requires c).Start) (state (goal.at.write_yes-requires c).Start) (lent (goal.at.write_yes-requires c).Start) c.requires (after (goal.at.write_yes-requires c).After-learn_in) (search rules)

pub returns-then-learn_in : goal.returns-then-learn_in
returns-then-learn_in c =
    let o = c.write_yes.new in
    answers_yes (n (goal.at.returns-then-learn_in c).Start) (list (goal.at.returns-then-learn_in c).Start) (k (goal.at.returns-then-learn_in c).Start) (state (goal.at.returns-then-learn_in c).Start) (lent (goal.at.returns-then-learn_in c).Start) c.requires (sym c.learn_in.ensures.0 ∙ c.if-learn_in.true) (after (goal.at.returns-then-learn_in c).After-learn_in) c.learn_in.ensures.1 o.model o.bounds o.groups o.work c.write_yes.ensures

pub returns : goal.returns
returns c =
    let o = c.decide.new in
    let left : Lent = record { model = o.model; bounds = o.bounds; groups = o.groups; refutation = o.refutation; identifiers = o.identifiers; work = o.work } in
    answers_decided (n (goal.at.returns c).Start) (list (goal.at.returns c).Start) (k (goal.at.returns c).Start) (state (goal.at.returns c).Start) (lent (goal.at.returns c).Start) c.requires (sym c.learn_in.ensures.0 ∙ c.if-learn_in.false) (after (goal.at.returns c).After-learn_in) c.learn_in.ensures.1 c.decide.result left c.decide.ensures
