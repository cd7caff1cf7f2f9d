use Rattle.std.proofs.Common.{◌≡◌, ◌∙◌, List, ℕ, Option, false, if◌then◌else◌, sym, ap, codes, refl}
use Rattle.std.proofs.lemmas.Bool.{cond-true, cond-false}
use Rattle.config_search.specs.System.{System}
use Rattle.config_search.specs.Names.{inside}
use Rattle.config_search.specs.Rule.{has_head, is_head, is_word}
use Rattle.config_search.specs.declared.TheConstants.{KIND, TEXT}
use Rattle.config_search.specs.Questions.{of_part}
use Rattle.config_search.proofs.start.has_head.Goals as goal

-- a file that is no link
no_link : (system : System) (folder : List ℕ) (kind : Option (List ℕ)) → kind ≡ system KIND (inside folder (codes "HEAD"))
    → is_word (codes "link") kind ≡ false
    → has_head system folder ≡ (if is_word (codes "file") kind
    then is_head (system TEXT (inside folder (codes "HEAD"))) else false)
unfolding has_head
no_link system folder kind is not = rw (sym is, not) refl

pub returns-then-is_word-2 : goal.returns-then-is_word-2
returns-then-is_word-2 c = λ system agrees.
    let known = c.in_ok-kind.ensures system agrees in
    c.is_head.ensures ∙ ap is_head (c.in_ok-answer_in-2.ensures system agrees)
    ∙ sym (cond-true _ _ false (sym c.is_word-2.ensures ∙ c.if-is_word-2.true))
    ∙ sym (no_link system c.args.folder.now _ known (sym c.is_word.ensures ∙ c.if-is_word.false))

pub returns : goal.returns
returns c = λ system agrees.
    let known = c.in_ok-kind.ensures system agrees in
    sym (cond-false _ _ false (sym c.is_word-2.ensures ∙ c.if-is_word-2.false))
    ∙ sym (no_link system c.args.folder.now _ known (sym c.is_word.ensures ∙ c.if-is_word.false))

pub answer_in-requires : goal.answer_in-requires
answer_in-requires c = λ system agrees. of_part (codes "HEAD") refl (c.requires system agrees)

pub answer_in-requires-then-is_word : goal.answer_in-requires-then-is_word
answer_in-requires-then-is_word c = λ system agrees. of_part (codes "HEAD") refl (c.requires system agrees)

pub answer_in-requires-then-is_word-2 : goal.answer_in-requires-then-is_word-2
answer_in-requires-then-is_word-2 c = λ system agrees. of_part (codes "HEAD") refl (c.requires system agrees)
