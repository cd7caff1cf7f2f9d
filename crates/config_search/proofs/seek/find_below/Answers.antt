use Rattle.std.proofs.Common.{◌≡◌, ◌∙◌, List, ℕ, Option, None, Some, true, false, is_some, sym, refl, subst, codes}
use Rattle.config_search.specs.System.{System}
use Rattle.config_search.specs.Names.{inside}
use Rattle.config_search.specs.Rule.{GitDir, IsBelow, find_below, is_git_dir, linked, linked_or}
use Rattle.config_search.specs.Questions.{Comes, in_dot_git, of_place}
use Rattle.config_search.specs.declared.TheConstants.{KIND}
use Rattle.config_search.proofs.Places.{leads_place}
use Rattle.config_search.proofs.seek.find_below.Goals as goal

nothing : (system : System) (start folder : List ℕ) (kind : Option (List ℕ))
    → kind ≡ system KIND (inside folder (codes ".git")) → is_some kind ≡ false → None ≡ find_below system start folder
unfolding find_below
nothing system start folder kind is not = rw (sym is, not) refl

-- where `.git` leads to a git directory
one : (system : System) (start folder link : List ℕ) (kind : Option (List ℕ)) (it : GitDir)
    → kind ≡ system KIND (inside folder (codes ".git")) → is_some kind ≡ true → link ≡ inside folder (codes ".git")
    → it ≡ linked_or link (codes ".git") IsBelow (linked system link) → is_git_dir system start it.name ≡ true
    → Some it ≡ find_below system start folder
unfolding find_below
one system start folder link kind it is known at leads right = rw (sym is, known, sym at, sym leads, right) refl

-- where `.git` leads to none
wrong : (system : System) (start folder link : List ℕ) (kind : Option (List ℕ)) (it : GitDir)
    → kind ≡ system KIND (inside folder (codes ".git")) → is_some kind ≡ true → link ≡ inside folder (codes ".git")
    → it ≡ linked_or link (codes ".git") IsBelow (linked system link) → is_git_dir system start it.name ≡ false
    → None ≡ find_below system start folder
unfolding find_below
wrong system start folder link kind it is known at leads not = rw (sym is, known, sym at, sym leads, not) refl

pub returns-then-not-is_known : goal.returns-then-not-is_known
returns-then-not-is_known c = λ system agrees. nothing system c.args.start.now c.args.folder.now _
    (c.in_ok-kind.ensures system agrees) (sym c.is_known.ensures ∙ c.if-not-is_known.true)

pub returns-then-branch : goal.returns-then-branch
returns-then-branch c = λ system agrees.
    let is = rw c.deref.ensures.value at c.in_ok-is_git_dir.ensures system agrees in
    one system c.args.start.now c.args.folder.now _ _ _ (c.in_ok-kind.ensures system agrees)
    (sym c.is_known.ensures ∙ c.if-not-is_known.false) c.in_ok-link.ensures (c.in_ok-git_dir.ensures system agrees)
    (sym is ∙ c.if-branch.true)

pub returns : goal.returns
returns c = λ system agrees.
    let is = rw c.deref.ensures.value at c.in_ok-is_git_dir.ensures system agrees in
    wrong system c.args.start.now c.args.folder.now _ _ _ (c.in_ok-kind.ensures system agrees)
    (sym c.is_known.ensures ∙ c.if-not-is_known.false) c.in_ok-link.ensures (c.in_ok-git_dir.ensures system agrees)
    (sym is ∙ c.if-branch.false)

pub answer_in-requires : goal.answer_in-requires
answer_in-requires c = λ system agrees. of_place refl (in_dot_git (c.requires.place system agrees))

pub linked_or-requires : goal.linked_or-requires
linked_or-requires c = λ system agrees. rw c.in_ok-link.ensures (in_dot_git (c.requires.place system agrees))

pub is_git_dir-requires-clause-place : goal.is_git_dir-requires-clause-place
is_git_dir-requires-clause-place c = λ system agrees. rw c.deref.ensures.value
    (subst (λ (it : GitDir). Comes system c.args.lookup.now.folder.now it.name) (sym (c.in_ok-git_dir.ensures system agrees))
    (leads_place system _ _ _ IsBelow (rw c.in_ok-link.ensures (in_dot_git (c.requires.place system agrees)))))
