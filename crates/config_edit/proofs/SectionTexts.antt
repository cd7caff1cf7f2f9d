-- Texts whose sections get another name or go, with their parts.
use Rattle.std.proofs.Common.{◌≡◌, ◌≢◌, ℕ, ◌+◌, true, false, List, [], ◌∷◌, ◌++◌, Some, None, codes}
use Rattle.std.proofs.Common.{refl, sym, ap, ◌∙◌, inl, inr, arith, get_or, length, length-append}
use Rattle.config_file.specs.Bytes.{is_name_byte}
use Rattle.config_file.specs.File as files
use Rattle.config_file.specs.Key.{Key}
use Rattle.config_file.specs.Listing as listing
use Rattle.config_edit.specs.Edit as edit
use Rattle.config_edit.specs.Cut as cut
use Rattle.config_edit.specs.Cut.{Part, Cuts}
use Rattle.config_edit.specs.Sections as spec
use Rattle.config_edit.specs.Sections.{NamesSection, IsHeaderIn, LacksSection, RenamesSection, RemovesSection}
use Rattle.config_edit.specs.Sections.{Clears, LastEnd}
use Rattle.config_edit.specs.Sections.{BeginsWithHeader, EndsInComments}
use Rattle.config_edit.proofs.Cuts.{no_part}
use Rattle.config_edit.proofs.Literals.{at_comment, at_end, at_entry, at_top, end, feed_end, feed_tail}
use Rattle.config_edit.proofs.Literals.{not_in, plain_is, plain_key, top, valued}
use Rattle.config_edit.proofs.OnePart.{parts_once}
use Rattle.config_edit.proofs.SectionLaws.{renamed_is, removed_is}

-- the key in the section of one letter
abbrev one : ℕ → Key
one letter = plain_key (letter ∷ []) (codes "x")

abbrev a : Key
a = one 97

abbrev b : Key
b = one 98

abbrev bC : Key
bC = record { section = codes "b"; subsection = Some (codes "C"); name = codes "x" }

a_is : NamesSection (codes "a") a
a_is = plain_is (codes "a") (codes "x") refl refl refl refl refl

b_is : NamesSection (codes "b") b
b_is = plain_is (codes "b") (codes "x") refl refl refl refl refl

bC_is : NamesSection (codes "b.C") bC
bC_is = record {
  cut = record { joined = refl; section = refl; name = refl };
  accepted = record { some_section = refl; section = refl; subsection = refl; name = refl };
}

-- headers of one letter
abbrev header_of : ℕ → Part
header_of letter = top (letter ∷ [])

abbrev k1 : Part
k1 = valued [] (codes "k") [] (codes "1") (codes "\n")

abbrev comment : Part
comment = cut.line (codes "#[a]\n") true

at_letter : {rest : List ℕ} {parts : List Part} (letter : ℕ) → is_name_byte letter ≡ true → Cuts rest parts
    → Cuts (91 ∷ letter ∷ 93 ∷ rest) (header_of letter ∷ parts)
at_letter letter is cuts = at_top (letter ∷ []) (λ e. cc) (rw is refl) cuts

at_a : {rest : List ℕ} {parts : List Part} → Cuts rest parts → Cuts (codes "[a]" ++ rest) (header_of 97 ∷ parts)
at_a cuts = at_letter 97 refl cuts

at_k1 : {rest : List ℕ} {parts : List Part} → Cuts rest parts → Cuts (codes "k=1\n" ++ rest) (k1 ∷ parts)
at_k1 cuts = at_entry [] 107 [] [] (codes "1") (codes "\n") refl refl refl refl refl (inl refl)
    (feed_tail _) cuts

unmarked : {text : List ℕ} {parts : List Part} → Cuts text parts → files.after_mark text ≡ None
    → cut.HasParts text [] parts
unmarked {text = text} cuts none = (text, cut.unmarked none, cuts)

in_a : IsHeaderIn a (header_of 97)
in_a = listing.plain

not_b : ¬ (IsHeaderIn a (header_of 98))
not_b = not_in a (codes "b") refl

not_c : ¬ (IsHeaderIn a (header_of 99))
not_c = not_in a (codes "c") refl

feed_alone : (front : List ℕ) → 10 ∷ [] ≢ front ++ 13 ∷ 10 ∷ []
feed_alone front e =
    let size : 1 ≡ length front + 2 = ap (λ l. length l) e ∙ length-append front (13 ∷ 10 ∷ []) in omega arith

ends_at_feed : LastEnd (header_of 97 ∷ end ∷ []) (10 ∷ [])
ends_at_feed = spec.here (header_of 97 ∷ []) end refl
    (edit.feed feed_alone)

ends_at_k1 : LastEnd (header_of 97 ∷ end ∷ k1 ∷ []) (10 ∷ [])
ends_at_k1 = spec.here (header_of 97 ∷ end ∷ []) k1 refl
    (feed_end (codes "k=") 49 (omega arith))

a_is_not_b : (rest : List ℕ) → codes "a" ≢ 98 ∷ rest
a_is_not_b rest e = let never : ◌≡◌ {A = ℕ} 97 98 = ap (λ l. get_or l 0 0) e in omega arith

pub in_comment : (new : List ℕ) → RenamesSection (codes "a") (codes "b") (codes "#[a]\n[a]\nk=1\n") new
    → new ≡ codes "#[a]\n[b]\nk=1\n"
in_comment new =
    renamed_is {new = new} a b a_is b_is (a_is_not_b [])
    (unmarked (at_comment [] 35 (codes "[a]") refl refl refl (at_a (at_end (at_k1 cut.ends)))) refl)
    (spec.kept comment (λ h. h) (spec.renamed [] (codes "a", None) (codes "a]") in_a
    (spec.kept end (λ h. h) (spec.kept k1 (λ h. h) spec.none))))

pub both_renamed : (new : List ℕ) → RenamesSection (codes "a") (codes "b") (codes "[a]\n[a]\nk=1\n") new
    → new ≡ codes "[b]\n[b]\nk=1\n"
both_renamed new =
    renamed_is {new = new} a b a_is b_is (a_is_not_b [])
    (unmarked (at_a (at_end (at_a (at_end (at_k1 cut.ends))))) refl)
    (spec.renamed [] (codes "a", None) (codes "a]") in_a (spec.kept end (λ h. h)
    (spec.renamed [] (codes "a", None) (codes "a]") in_a
    (spec.kept end (λ h. h) (spec.kept k1 (λ h. h) spec.none)))))

pub with_subsection : (new : List ℕ) → RenamesSection (codes "a") (codes "b.C") (codes "[a]\nk=1\n") new
    → new ≡ codes "[b \"C\"]\nk=1\n"
with_subsection new =
    renamed_is {new = new} a bC a_is bC_is (a_is_not_b (codes ".C"))
    (unmarked (at_a (at_end (at_k1 cut.ends))) refl)
    (spec.renamed [] (codes "a", None) (codes "a]") in_a
    (spec.kept end (λ h. h) (spec.kept k1 (λ h. h) spec.none)))

-- the section of `a` goes, with its lines
no_comments : EndsInComments (end ∷ []) []
no_comments = spec.lines end [] (λ front last e. absurd (no_part front last e)) tt

pub alone_removed : (new : List ℕ) → RemovesSection (codes "a") (codes "[a]\n") new → new ≡ []
alone_removed new =
    removed_is (codes "a") {new = new} a a_is (unmarked (at_a (at_end cut.ends)) refl)
    (spec.lost {next = []} (header_of 97) (end ∷ []) [] in_a refl (inr (refl, refl)) ends_at_feed spec.none)

a_goes : {next : List Part} {new : List ℕ} → BeginsWithHeader next → Clears a false next new
    → Clears a false (header_of 97 ∷ end ∷ next) new
a_goes begins c =
    spec.lost (header_of 97) (end ∷ []) [] in_a refl (inl (begins, no_comments)) ends_at_feed c

pub both_removed : (new : List ℕ) → RemovesSection (codes "a") (codes "[a]\n[a]\nk=1\n") new → new ≡ []
both_removed new =
    removed_is (codes "a") {new = new} a a_is (unmarked (at_a (at_end (at_a (at_end (at_k1 cut.ends))))) refl)
    (a_goes refl (spec.lost {next = []} (header_of 97) (end ∷ k1 ∷ []) [] in_a refl
    (inr (refl, refl)) ends_at_k1
    spec.none))

pub between_removed : (new : List ℕ) → RemovesSection (codes "a") (codes "[b]\n[a]\n[c]\n") new
    → new ≡ codes "[b]\n[c]\n"
between_removed new =
    removed_is (codes "a") {new = new} a a_is
    (unmarked (at_letter 98 refl (at_end (at_a (at_end (at_letter 99 refl (at_end cut.ends)))))) refl)
    (spec.kept (header_of 98) not_b (spec.kept end (λ h. h) (a_goes refl
    (spec.kept (header_of 99) not_c (spec.kept end (λ h. h) spec.none)))))

-- a section without entries is there
pub not_absent : LacksSection (codes "a") (codes "[a]\n") → ⊥
not_absent (contents, has, lacks) =
    let (mark, parts, has_parts, none) = lacks a a_is in
    let same = (parts_once has_parts (unmarked (at_a (at_end cut.ends)) refl)).1 in
    (rw same at none).0 in_a
