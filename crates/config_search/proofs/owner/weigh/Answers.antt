use Rattle.std.proofs.Common.{◌≡◌, inl, inr, refl, sym}
use Rattle.config_search.specs.Rule.{IsBare, IsBelow, IsGiven}
use Rattle.config_search.specs.Search.{Inside}
use Rattle.config_search.specs.Shown.{git_dir_of}
use Rattle.config_search.proofs.owner.weigh.Goals.{in-Bare+in_ok-refusal-in-Bare+in_default, in-Below}
use Rattle.config_search.proofs.owner.weigh.Goals as goal

bare_given : IsBare ≡ IsGiven → ⊥
bare_given e = cc

below_given : IsBelow ≡ IsGiven → ⊥
below_given e = cc

pub returns-in-Some : goal.returns-in-Some
returns-in-Some c = λ system start agrees. (rw c.in-Some.is at c.in_ok-refusal-in-Bare.ensures) system start
    (Inside c.args.folder.name.now (git_dir_of c.args.git_dir.now)) (rw c.in-Bare.is refl)

pub returns-then-branch : goal.returns-then-branch
returns-then-branch c = λ system start agrees. inr (inl (rw c.if-branch.true at c.in_ok-is_own.ensures system agrees))

pub returns-in-Some-2 : goal.returns-in-Some-2
returns-in-Some-2 c = λ system start agrees. (
  (
    λ given. elim c.match-git_dir.branch [
      | in-Bare+in_ok-refusal-in-Bare+in_default w ↦ bare_given (rw w.in-Bare.is at given)
      | in-Below w ↦ below_given (rw w.in-Below.is at given)
    ],
    rw c.if-branch.false at c.in_ok-is_own.ensures system agrees,
  ),
  sym (rw (c.in-Some-2.is, c.opened.ensures) at c.in_ok-real.ensures system agrees),
)

pub returns-in_ok-to_vec-in-None : goal.returns-in_ok-to_vec-in-None
returns-in_ok-to_vec-in-None c = λ system start agrees. (
  λ given. elim c.match-git_dir.branch [
    | in-Bare+in_ok-refusal-in-Bare+in_default w ↦ bare_given (rw w.in-Bare.is at given)
    | in-Below w ↦ below_given (rw w.in-Below.is at given)
  ],
  rw c.if-branch.false at c.in_ok-is_own.ensures system agrees,
  inl (sym (rw (c.in-None.is, c.opened.ensures) at c.in_ok-real.ensures system agrees)),
)
