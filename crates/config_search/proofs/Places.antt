-- The places to which what the rule finds leads.
use Rattle.std.proofs.Common.{◌≡◌, ◌≢◌, ◌⊎◌, arith, ℕ, Bool, List, [], Option, None, Some, true, false, if◌then◌else◌, inl, inr, is_some, length, codes, ◌==◌, sym, refl, subst}
use Rattle.std.proofs.lemmas.Bool.Decides.{nat_tests}
use Rattle.config_search.specs.System.{System, answer_of}
use Rattle.config_search.specs.Names.{inside, parent_of, front_len}
use Rattle.config_search.specs.Rule.{Own, Linked, Broken, Form, GitDir, IsGiven, IsBelow, given_in, given_or, linked, linked_by, linked_folder, linked_or, common_of, real_folder, find_below, find_bare, find_in, or_else}
use Rattle.config_search.specs.Search.{Sought, Nowhere, Inside, Refused, or_refused, Above, at_root, at_end, is_there, is_further, Seeks, by_variable, in_start, in_above, without_path}
use Rattle.config_search.specs.Questions as places
use Rattle.config_search.specs.Questions.{Comes}
use Rattle.config_search.specs.Shown.{common_of as shown_common, folder_in}
use Rattle.config_search.specs.declared.fact.Fact.{Fact}
use Rattle.config_search.specs.declared.git_dir.Common.{Common as CommonFolder}
use Rattle.config_search.specs.declared.git_dir.Common.TheVariants.{Own as SharesNone, Linked as Shared, Broken as SharesBroken}
use Rattle.config_search.specs.declared.TheConstants.{VARIABLE, CURRENT, KIND, REAL, TEXT}

-- what the file commondir of a place names

one_linked : (b c : Bool) (at other : List ℕ) → (if b then Broken else (if c then Linked at else Broken)) ≡ Linked other → at ≡ other
one_linked true c at other is = absurd cc
one_linked false true at other is = cc
one_linked false false at other is = absurd cc

by_text : (system : System) (folder at other : List ℕ) (text : Option (List ℕ)) → Comes system folder at
    → text ≡ system TEXT (inside at (codes "commondir")) → linked_by system at text ≡ Linked other → Comes system folder other
by_text system folder at other None comes said is = absurd cc
by_text system folder at other (Some text) comes said is =
    subst (λ (name : List ℕ). Comes system folder name) (one_linked _ _ _ _ is) (places.in_commondir comes (sym said))

by_kind : (system : System) (folder at other : List ℕ) (known : Bool) → Comes system folder at
    → (if known then linked_by system at (system TEXT (inside at (codes "commondir"))) else Own) ≡ Linked other
    → Comes system folder other
by_kind system folder at other true comes is = by_text system folder at other _ comes refl is
by_kind system folder at other false comes is = absurd cc

pub linked_place : (system : System) (folder at other : List ℕ) → Comes system folder at
    → linked_folder system at ≡ Linked other → Comes system folder other
unfolding linked_folder
linked_place system folder at other comes is =
    by_kind system folder at other (is_some (system KIND (inside at (codes "commondir")))) comes is

by_given : (system : System) (folder start at other : List ℕ) (given : Option (List ℕ)) → Comes system folder start
    → Comes system folder at → given ≡ system VARIABLE (codes "GIT_COMMON_DIR")
    → given_or start (linked_folder system at) given ≡ Linked other → Comes system folder other
by_given system folder start at other None begins comes said is = linked_place system folder at other comes is
by_given system folder start at other (Some text) begins comes said is =
    let same : given_in start text ≡ other = cc in
    subst (λ (name : List ℕ). Comes system folder name) same (places.by_common begins (sym said))

-- the folder that a git directory shares
pub common_place : (system : System) (folder start at other : List ℕ) → Comes system folder start
    → Comes system folder at → common_of system start at ≡ Linked other → Comes system folder other
common_place system folder start at other begins comes is = by_given system folder start at other _ begins comes refl is

-- git directories

by_link : (system : System) (folder name named : List ℕ) (form : Form) (target : Option (List ℕ)) → Comes system folder name
    → target ≡ linked system name → Comes system folder (linked_or name named form target).name
by_link system folder name named form None comes is = comes
by_link system folder name named form (Some other) comes is = places.where_linked comes (sym is)

-- the git directory to which a name leads
pub leads_place : (system : System) (folder name named : List ℕ) (form : Form) → Comes system folder name
    → Comes system folder (linked_or name named form (linked system name)).name
leads_place system folder name named form comes = by_link system folder name named form _ comes refl

one_below : (b c : Bool) (it found : GitDir) → (if b then (if c then Some it else None) else None) ≡ Some found → it ≡ found
one_below true true it found is = cc
one_below true false it found is = absurd cc
one_below false c it found is = absurd cc

one_bare : (b : Bool) (it found : GitDir) → (if b then Some it else None) ≡ Some found → it ≡ found
one_bare true it found is = cc
one_bare false it found is = absurd cc

below_place : (system : System) (folder start at : List ℕ) (it : GitDir) → Comes system folder at
    → find_below system start at ≡ Some it → Comes system folder it.name
unfolding find_below
below_place system folder start at it comes is = subst (λ (g : GitDir). Comes system folder g.name)
    (one_below _ _ _ it is) (leads_place system folder _ _ IsBelow (places.in_dot_git comes))

bare_place : (system : System) (folder start at : List ℕ) (it : GitDir) → Comes system folder at
    → find_bare system start at ≡ Some it → Comes system folder it.name
unfolding find_bare
bare_place system folder start at it comes is = subst (λ (g : GitDir). Comes system folder g.name)
    (one_bare _ _ it is) (places.also_opened comes)

one_of : (first second : Option GitDir) (it : GitDir) → or_else first second ≡ Some it → (first ≡ Some it) ⊎ (second ≡ Some it)
one_of None second it is = inr is
one_of (Some found) second it is = inl is

-- the git directory that is found in a place
pub found_place : (system : System) (folder start at : List ℕ) (it : GitDir) → Comes system folder at
    → find_in system start at ≡ Some it → Comes system folder it.name
found_place system folder start at it comes is = elim (one_of (find_below system start at) (find_bare system start at) it is)
    [ inl below ↦ below_place system folder start at it comes below | inr bare ↦ bare_place system folder start at it comes bare ]

-- folders

above_is : (b c : Bool) (at higher : List ℕ) → (if b then None else (if c then None else Some at)) ≡ Some higher
    → (if b then [] else at) ≡ higher
above_is true c at higher is = absurd cc
above_is false true at higher is = absurd cc
above_is false false at higher is = cc

-- the folder above a place
pub parent_place : (system : System) (folder at higher : List ℕ) → Comes system folder at → parent_of at ≡ Some higher
    → Comes system folder higher
parent_place system folder at higher comes is = subst (λ (name : List ℕ). Comes system folder name)
    (above_is (front_len at == 0) (front_len at == length at) _ higher is) (places.above comes)

by_real : (system : System) (folder at path : List ℕ) (here there : Bool) → Comes system folder at
    → (if here then system CURRENT [] else (if there then system REAL at else None)) ≡ Some path → Comes system folder path
by_real system folder at path true there comes is = places.in_current is
by_real system folder at path false true comes is = places.without_links comes is
by_real system folder at path false false comes is = absurd cc

-- its path without links
pub real_place : (system : System) (folder at path : List ℕ) → Comes system folder at → real_folder system at ≡ Some path
    → Comes system folder path
real_place system folder at path comes is = by_real system folder at path _ _ comes is

-- what is found from a place

abbrev AreThere : System → List ℕ → Sought → Type 0
AreThere system folder Nowhere = Unit {0}
AreThere system folder (Inside at it) = Comes system folder at × Comes system folder it.name
AreThere system folder (Refused text) = Unit {0}

above_place : (system : System) (folder start : List ℕ) {at : List ℕ} {found : Sought} → Comes system folder at
    → Above system start at found → AreThere system folder found
above_place system folder start comes (at_root none is) = rw is tt
above_place system folder start comes (at_end higher up ends is) = rw is tt
above_place system folder start comes (is_there higher it up goes found is) =
    let there = parent_place system folder _ higher comes up in
    rw is (there, found_place system folder start higher it there found)
above_place system folder start comes (is_further higher up goes none above) =
    above_place system folder start (parent_place system folder _ higher comes up) above

by_text_of : (system : System) (folder start text : List ℕ) (empty is : Bool) (it : GitDir) → Comes system folder start
    → Comes system folder it.name
    → AreThere system folder (if empty then Refused text else or_refused start text (if is then Some it else None))
by_text_of system folder start text true is it begins comes = tt
by_text_of system folder start text false true it begins comes = (begins, comes)
by_text_of system folder start text false false it begins comes = tt

pub sought_place : (system : System) (folder start : List ℕ) {found : Sought} → Comes system folder start
    → Seeks system start found → AreThere system folder found
sought_place system folder start begins (by_variable text said is) = rw is (by_text_of system folder start text _ _ _ begins
    (leads_place system folder _ text IsGiven (places.by_variable {variable = codes "GIT_DIR"} begins refl said)))
sought_place system folder start begins (in_start it unset found is) =
    rw is (begins, found_place system folder start start it begins found)
sought_place system folder start begins (in_above lowest unset none real above) =
    above_place system folder start (real_place system folder start lowest begins real) above
sought_place system folder start begins (without_path unset none real is) = rw is tt

-- a folder of which a fact tells the device

answers : (fact : Fact) → fact.has ≢ 0 → answer_of fact ≡ Some fact.text.now
answers fact has = grind (arith, nat_tests)

-- the folder that a git directory shares by its file

pub shared_place : (system : System) (folder : List ℕ) (common : CommonFolder) (at : List ℕ) → Comes system folder at
    → shown_common common ≡ linked_folder system at → Comes system folder (folder_in at common)
shared_place system folder SharesNone at comes is = comes
shared_place system folder (Shared other) at comes is = linked_place system folder at other.items comes (sym is)
shared_place system folder SharesBroken at comes is = comes
