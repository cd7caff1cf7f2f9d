-- Lists of files that are added one after the other.
use Rattle.std.proofs.Common.{◌≡◌, ◌∙◌, ◌++◌, ◌≤◌, ℕ, Bool, Option, List, [], ◌∷◌, None, Some, true, ap, refl, sym, arith, codes, length, map, append_assoc, get_or}
use Rattle.config_search.specs.System.{System}
use Rattle.config_search.specs.Names.{inside}
use Rattle.config_search.specs.Rule.{is_word}
use Rattle.config_search.specs.Shown.{file_of}
use Rattle.config_search.specs.Files.{File, AreFiles, IsOfSystem, can_read, file, files_of_user, in_home, in_xdg, of_repository_in, of_user_by, one_of_home, or_readable, shown_in}
use Rattle.config_search.specs.declared.answer.Named.{Named}
use Rattle.config_file.specs.declared.scope.Scope.TheVariants.{Local as of_repository, Worktree as of_tree}
use Rattle.config_search.specs.declared.TheConstants.{VARIABLE, READABLE}

pub two_more : (before between after first second : List File) → between ≡ before ++ first → after ≡ between ++ second
    → after ≡ before ++ (first ++ second)
two_more before between after first second is then =
    then ∙ ap (λ (files : List File). files ++ second) is ∙ append_assoc before first second

pub of_user : (system : System) (before between after : List File) (home own : Option (List ℕ))
    → home ≡ system VARIABLE (codes "HOME") → own ≡ system VARIABLE (codes "XDG_CONFIG_HOME")
    → between ≡ before ++ in_xdg home own → after ≡ between ++ in_home home (codes ".gitconfig")
    → after ≡ before ++ of_user_by system None
of_user system before between after home own at there is then =
    rw (sym at, sym there) (two_more before between after (in_xdg home own) (in_home home (codes ".gitconfig")) is then)

pub of_both : (before between after : List File) (shared own first second : List ℕ) (has_own : Bool)
    → first ≡ shown_in shared (codes "config") → second ≡ shown_in own (codes "config.worktree") → has_own ≡ true
    → between ≡ before ++ file of_repository first → after ≡ between ++ file of_tree second
    → after ≡ before ++ of_repository_in shared own has_own
of_both before between after shared own first second has_own at there has is then =
    rw (has, sym at, sym there) (two_more before between after (file of_repository first) (file of_tree second) is then)

-- files that others follow, of which the first are those of the system
pub begins : (system : System) (before between after others : List File) → before ≡ []
    → ((first : List File) × IsOfSystem system first × (between ≡ before ++ first)) → after ≡ between ++ others
    → (first : List File) × IsOfSystem system first × (after ≡ first ++ others)
begins system before between after others none (first, is, at) then = (
  first,
  is,
  then ∙ ap (λ (files : List File). files ++ others) (at ∙ ap (λ (files : List File). files ++ first) none),
)

pub with_others : (system : System) (before after others : List File)
    → ((first : List File) × IsOfSystem system first × (before ≡ first ++ files_of_user system))
    → after ≡ before ++ others → AreFiles system others after
with_others system before after others (first, is, at) then =
    (first, is, then ∙ ap (λ (files : List File). files ++ others) at)

pub first_read : (system : System) (folder : List ℕ) (names : List Named) (it : Named) (can : Bool)
    (answer : Option (List ℕ)) → 1 ≤ length names → it ≡ get_or names 0 it → can ≡ is_word (codes "yes") answer
    → answer ≡ system READABLE (inside folder it.name.items) → can ≡ can_read system folder (map file_of names)
first_read system folder [] it can answer some is word told = absurd (omega (arith, some))
first_read system folder (name ∷ names) it can answer some is word told = rw (sym is) (rw word (rw told refl))

pub one_home : (system : System) (folder home : List ℕ) (xdg : Option (List ℕ)) (own others files : List File)
    → own ≡ in_home (Some home) (codes ".gitconfig") → xdg ≡ system VARIABLE (codes "XDG_CONFIG_HOME")
    → others ≡ in_xdg (Some home) xdg → files ≡ or_readable system folder own others
    → files ≡ one_of_home system folder (Some home)
one_home system folder home xdg own others files at there is then =
    then ∙ ap (λ (list : List File). or_readable system folder list others) at
    ∙ ap (or_readable system folder (in_home (Some home) (codes ".gitconfig"))) (is ∙ ap (in_xdg (Some home)) there)
