-- Keys as Git 2.39.5, 2.47.3 and 2.55.0 read them, which no manual page says in full. A definition with
-- another first or last dot, byte of a part or order of refusals fails here.
use Rattle.std.proofs.Common.{◌≡◌, ◌≢◌, true, ℕ, List, [], ◌∷◌, ◌++◌, Option, Some, None, codes, get_or}
use Rattle.std.proofs.Common.{◌==◌, refl, sym, ap, subst}
use Rattle.std.proofs.lemmas.Bool.{true≢false}
use Rattle.std.proofs.lemmas.Option.{same_Some}
use Rattle.std.specs.List.{list_all}
use Rattle.config_file.specs.declared.key.KeyError.TheVariants.{NoSection, NoName, BadByte, LineFeed}
use Rattle.config_file.specs.File.{entry_at}
use Rattle.config_file.specs.Bytes.{dot}
use Rattle.config_file.specs.Subsection as sub
use Rattle.config_file.specs.Listing.{IsListedSection, plain, quoted}
use Rattle.config_file.proofs.Keys.{SpellsLeft, listed_as}
use Rattle.config_file.specs.Key.{Key, key, written, listed, HasKey, IsCut, IsKey, RefusesKey, dotted}
use Rattle.config_file.specs.Key.{no_dot, wrong, no_section, no_name, bad_section, many_lines, bad_name}
use Rattle.config_file.specs.Key.{is_no_dot, has_section, is_section, is_one_line, is_name}

cut : {text : List ℕ} {k : Key} → text ≡ written k → list_all is_no_dot k.section ≡ true
    → list_all is_no_dot k.name ≡ true → IsCut text k
cut joined section name = record { joined = joined; section = section; name = name }

is_key : {text : List ℕ} {k : Key} → IsCut text k → has_section k ≡ true → is_section k.section ≡ true
    → is_one_line k.subsection ≡ true → is_name k.name ≡ true → IsKey text k
is_key is some section subsection name =
    record {
      cut = is;
      accepted = record { some_section = some; section = section; subsection = subsection; name = name };
    }

some_byte : (b : ℕ) (text : List ℕ) → b ∷ text ≢ []
some_byte b text e = cc

pub keys : IsKey (codes "core.bare") (key (codes "core") None (codes "bare"))
    × IsKey (codes "branch.Main.rebase") (key (codes "branch") (Some (codes "Main")) (codes "rebase"))
    × IsKey (codes "a.b.c.d-1") (key (codes "a") (Some (codes "b.c")) (codes "d-1"))
    × IsKey (codes "a..b") (key (codes "a") (Some []) (codes "b"))
    × IsKey (codes ".x.key") (key [] (Some (codes "x")) (codes "key"))
    × IsKey (codes "..b") (key [] (Some []) (codes "b"))
    × IsKey (codes "1-.b") (key (codes "1-") None (codes "b"))
keys = (
  is_key (cut refl refl refl) refl refl refl refl,
  is_key (cut refl refl refl) refl refl refl refl,
  is_key (cut refl refl refl) refl refl refl refl,
  is_key (cut refl refl refl) refl refl refl refl,
  is_key (cut refl refl refl) refl refl refl refl,
  is_key (cut refl refl refl) refl refl refl refl,
  is_key (cut refl refl refl) refl refl refl refl,
)

pub without_section : RefusesKey [] NoSection × RefusesKey (codes "key") NoSection
    × RefusesKey (codes ".key") NoSection × RefusesKey (codes ".") NoSection
without_section = (
  no_dot refl,
  no_dot refl,
  wrong {k = key [] None (codes "key")} (cut refl refl refl) (no_section refl),
  wrong {k = key [] None []} (cut refl refl refl) (no_section refl),
)

pub without_name : RefusesKey (codes "a.") NoName × RefusesKey (codes "a_.b.") NoName
    × RefusesKey (codes "..") NoName
without_name = (
  wrong {k = key (codes "a") None []} (cut refl refl refl) (no_name refl refl),
  wrong {k = key (codes "a_") (Some (codes "b")) []} (cut refl refl refl) (no_name refl refl),
  wrong {k = key [] (Some []) []} (cut refl refl refl) (no_name refl refl),
)

pub with_a_wrong_byte : RefusesKey (codes "a_b.c") BadByte × RefusesKey (codes "a_.x\ny.k") BadByte
    × RefusesKey (codes "a.b_c") BadByte × RefusesKey (codes "a.1b") BadByte
    × RefusesKey (codes "a.-b") BadByte × RefusesKey (codes "a.b\nc") BadByte
with_a_wrong_byte = (
  wrong {k = key (codes "a_b") None (codes "c")} (cut refl refl refl)
      (bad_section refl (some_byte _ _) refl),
  wrong {k = key (codes "a_") (Some (codes "x\ny")) (codes "k")} (cut refl refl refl)
      (bad_section refl (some_byte _ _) refl),
  wrong {k = key (codes "a") None (codes "b_c")} (cut refl refl refl)
      (bad_name refl (some_byte _ _) refl refl refl),
  wrong {k = key (codes "a") None (codes "1b")} (cut refl refl refl)
      (bad_name refl (some_byte _ _) refl refl refl),
  wrong {k = key (codes "a") None (codes "-b")} (cut refl refl refl)
      (bad_name refl (some_byte _ _) refl refl refl),
  wrong {k = key (codes "a") None (codes "b\nc")} (cut refl refl refl)
      (bad_name refl (some_byte _ _) refl refl refl),
)

pub with_a_line_feed : RefusesKey (codes "a.x\ny.k") LineFeed × RefusesKey (codes ".x\ny.1k") LineFeed
with_a_line_feed = (
  wrong {k = key (codes "a") (Some (codes "x\ny")) (codes "k")} (cut refl refl refl)
      (many_lines refl (some_byte _ _) refl refl),
  wrong {k = key [] (Some (codes "x\ny")) (codes "1k")} (cut refl refl refl)
      (many_lines refl (some_byte _ _) refl refl),
)

pub keys_are_listed : (listed (key (codes "Core") None (codes "FileMode")) ≡ codes "core.filemode")
    × (listed (key (codes "Branch") (Some (codes "Main")) (codes "Rebase")) ≡ codes "branch.Main.rebase")
    × (listed (key [] (Some []) (codes "K")) ≡ codes "..k")
keys_are_listed = (refl, refl, refl)

-- the key of an entry after the header `[A.B]`
pub old_header : HasKey (entry_at (Some (codes "A.B", None)) (codes "Key") None 1)
    (key (codes "a") (Some (codes "b")) (codes "kEY"))
old_header =
    record { section = (codes "A.B", None); in_section = refl; stem_listed = plain; same_name = refl }

-- what the header `[a.B]` has after its first dot is listed in lower case
stem_differs : (left : Option (List ℕ)) → SpellsLeft None left
    → codes "a.B." ≡ (codes "a.b" ++ dotted left) ++ dot ∷ [] → ⊥
stem_differs None s e = true≢false (sym (ap (λ t. get_or t 2 0 == 98) e))
stem_differs (Some left) s e = absurd s

pub old_header_in_lower_case : ¬ (HasKey (entry_at (Some (codes "a.B", None)) (codes "k") None 1)
    (key (codes "a") (Some (codes "B")) (codes "k")))
old_header_in_lower_case has =
    let is = sym (same_Some _ _ has.in_section) in
    let listed = subst (λ section. IsListedSection section (codes "a.B.")) is has.stem_listed in
    let (left, s, e) = listed_as listed in
    stem_differs left s e

-- the key of an entry after the header `[Branch "Ma\in"]`
pub quoted_header : HasKey (entry_at (Some (codes "Branch", Some (codes "Ma\\in"))) (codes "ReBase") None 1)
    (key (codes "branch") (Some (codes "Main")) (codes "rebase"))
quoted_header =
    record {
      section = (codes "Branch", Some (codes "Ma\\in"));
      in_section = refl;
      stem_listed =
          quoted (sub.plain refl (sub.plain refl (sub.escaped refl refl (sub.plain refl sub.ends))));
      same_name = refl;
    }
