use Rattle.std.proofs.Common.{arith, codes, inl, inr, refl}
use Rattle.config_search.specs.Search.{by_variable, in_above, at_end, is_there}
use Rattle.config_search.specs.Rule.{find_below, find_bare, is_git_dir, has_head, linked, linked_folder}
use Rattle.config_search.proofs.laws.layouts.Goals as goal

pub returns-clause-below : goal.returns-clause-below
unfolding find_below find_bare is_git_dir has_head linked linked_folder
returns-clause-below c = refl

pub returns-clause-bare : goal.returns-clause-bare
unfolding find_below find_bare is_git_dir has_head linked linked_folder
returns-clause-bare c = refl

pub returns-clause-both : goal.returns-clause-both
unfolding find_below find_bare is_git_dir has_head linked linked_folder
returns-clause-both c = refl

pub returns-clause-elsewhere : goal.returns-clause-elsewhere
unfolding find_below find_bare is_git_dir has_head linked linked_folder
returns-clause-elsewhere c = refl

pub returns-clause-no_head : goal.returns-clause-no_head
unfolding find_below find_bare is_git_dir has_head linked linked_folder
returns-clause-no_head c = refl

pub returns-clause-no_refs : goal.returns-clause-no_refs
unfolding find_below find_bare is_git_dir has_head linked linked_folder
returns-clause-no_refs c = refl

pub returns-clause-of_tree : goal.returns-clause-of_tree
unfolding find_below find_bare is_git_dir has_head linked linked_folder
returns-clause-of_tree c = refl

pub returns-clause-given : goal.returns-clause-given
unfolding find_below find_bare is_git_dir has_head linked linked_folder
returns-clause-given c = by_variable _ refl refl

pub returns-clause-refused : goal.returns-clause-refused
unfolding find_below find_bare is_git_dir has_head linked linked_folder
returns-clause-refused c = by_variable _ refl refl

pub returns-clause-above : goal.returns-clause-above
unfolding find_below find_bare is_git_dir has_head linked linked_folder
returns-clause-above c = in_above (codes "/a/b") refl refl refl (is_there (codes "/a") _ refl
    (λ ends. elim ends [ inl among ↦ omega (among.1, arith) | inr apart ↦ apart.1 refl ]) refl refl)

pub returns-clause-at_ceiling : goal.returns-clause-at_ceiling
unfolding find_below find_bare is_git_dir has_head linked linked_folder
returns-clause-at_ceiling c = in_above (codes "/a/b") refl refl refl
    (at_end (codes "/a") refl (inl (1, omega arith, refl)) refl)

pub returns-clause-at_device : goal.returns-clause-at_device
unfolding find_below find_bare is_git_dir has_head linked linked_folder
returns-clause-at_device c = in_above (codes "/a/b") refl refl refl
    (at_end (codes "/a") refl (inr (λ on. on, λ same. cc)) refl)
