use Rattle.std.proofs.Common.{◌≡◌, ℕ, List, None, Some, arith, drop, false, subst}
use Rattle.lg_client.specs.Meaning.Answers.{IsHttpAnswer}
use Rattle.lg_client.specs.Meaning.Questions.{is_code_of}
use Rattle.lg_client.specs.Meaning.Waiting.{unavailable}
use Rattle.lg_client.specs.Support.Receiving.{HeadSays}
use Rattle.lg_client.proofs.DelayLaws.{says_later, turned_down, turned_down_silently}
use Rattle.lg_client.proofs.asking.turned_down.Goals as goal

pub returns-then-answer-ne-UNAVAILABLE : goal.returns-then-answer-ne-UNAVAILABLE
returns-then-answer-ne-UNAVAILABLE c = (
  c.args.answer.now.bytes.items,
  turned_down c.args.codes.now c.args.answer.now.bytes.items c.args.answer.now.code _ c.requires.whole c.requires.disallowed c.if-answer-ne-UNAVAILABLE.true,
)

pub returns-in-Some : goal.returns-in-Some
returns-in-Some c =
    let code : c.args.answer.now.code ≡ unavailable = omega arith in
    let Whole : ℕ → Type 0 = λ n. IsHttpAnswer c.args.answer.now.bytes.items n (drop c.args.answer.now.start c.args.answer.now.bytes.items) in
    let Disallowed : ℕ → Type 0 = λ n. is_code_of c.args.codes.now n ≡ false in
    let Says : List ℕ → Type 0 = λ b. HeadSays b (Some c.in-Some.seconds) in
    let says : Says c.args.answer.now.bytes.items = subst Says c.deref.ensures.value c.in-Some.ensures in
    (c.args.answer.now.bytes.items, says_later _ _ c.in-Some.seconds (subst Whole code c.requires.whole) says, subst Disallowed code c.requires.disallowed)

pub returns-in-None : goal.returns-in-None
returns-in-None c =
    let code : c.args.answer.now.code ≡ unavailable = omega arith in
    let Whole : ℕ → Type 0 = λ n. IsHttpAnswer c.args.answer.now.bytes.items n (drop c.args.answer.now.start c.args.answer.now.bytes.items) in
    let Disallowed : ℕ → Type 0 = λ n. is_code_of c.args.codes.now n ≡ false in
    let Says : List ℕ → Type 0 = λ b. HeadSays b None in
    let says : Says c.args.answer.now.bytes.items = subst Says c.deref.ensures.value c.in-None.ensures in (
      c.args.answer.now.bytes.items,
      turned_down_silently c.args.codes.now _ _ (subst Whole code c.requires.whole) (subst Disallowed code c.requires.disallowed) says,
    )
