use Rattle.std.proofs.Common.{◌≡◌, ◌∙◌, ◌&&◌, ◌||◌, List, ℕ, Option, codes, false, option_copied, refl, sym, true}
use Rattle.config_search.specs.Rule.{is_word}
use Rattle.config_search.specs.Search.{is_same}
use Rattle.config_search.specs.Questions.{of_place}
use Rattle.config_search.proofs.owner.is_owned.Goals as goal

by_sudo : (owner user sudo : Option (List ℕ)) → is_same owner user ≡ false → is_word (codes "0") user ≡ true
    → is_same owner sudo ≡ (is_same owner user || (is_word (codes "0") user && is_same owner sudo))
by_sudo owner user sudo other root = rw (other, root) refl

pub returns : goal.returns
returns c = λ system agrees.
    rw (sym (c.in_ok-owner.ensures system agrees), sym (c.in_ok-user.ensures system agrees), sym (c.in_ok-answer_to.ensures system agrees))
    (c.is_same-2.ensures ∙ by_sudo (option_copied c.in_ok-owner.owner) (option_copied c.in_ok-user.user)
    (option_copied c.in_ok-answer_to.field-0) (sym c.is_same.ensures ∙ c.if-is_same.false) (sym c.is_word.ensures ∙ c.if-not-is_word.false))

pub answer_to-requires : goal.answer_to-requires
answer_to-requires c = λ system agrees. of_place refl (c.requires system agrees)
