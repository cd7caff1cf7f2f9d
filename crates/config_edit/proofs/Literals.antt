-- Literal texts: their parts, and what is made of them.
use Rattle.std.proofs.Common.{◌≡◌, ◌≢◌, ℕ, ◌==◌, ◌||◌, not, Bool, true, false, List, [], ◌∷◌, ◌++◌, Option}
use Rattle.std.proofs.Common.{Some, None, codes}
use Rattle.std.proofs.Common.{refl, sym, ap, ◌∙◌, subst, append_assoc, arith, inl, inr, get_or, map}
use Rattle.std.proofs.Common.{if◌then◌else◌, length, append-nil, true≢false}
use Rattle.std.specs.Prelude.{⊤}
use Rattle.std.proofs.lemmas.Bool.{and_parts, cases_Bool, eqb-false, not-true}
use Rattle.std.proofs.lemmas.Bool.Decides.{nat_tests}
use Rattle.std.specs.Char.{to_ascii_lowercase}
use Rattle.std.specs.List.{list_all}
use Rattle.config_file.proofs.EachReading.{each_is_read}
use Rattle.config_file.proofs.OneText.{one_text}
use Rattle.config_file.proofs.Spellings.{git_spelling}
use Rattle.config_file.specs.Bytes.{is_blank, is_space, is_plain, is_key_byte, is_name_byte, is_comment_sign}
use Rattle.config_file.specs.Bytes.{is_comment_byte, IsAtLineEnd}
use Rattle.config_file.specs.Runs.{StopsRun}
use Rattle.config_file.specs.Header as header
use Rattle.config_file.specs.Header.{Section}
use Rattle.config_file.specs.Listing as listing
use Rattle.config_file.specs.Listing.{IsListedSection}
use Rattle.config_file.specs.Value as value
use Rattle.config_file.specs.Value.{Spells, SpellsValue, EndsValue, itself, kept}
use Rattle.config_file.specs.File as file
use Rattle.config_file.specs.File.{after_mark}
use Rattle.config_file.specs.Key.{Key, IsKey, has_section, is_name, is_no_dot, is_section, stem, written}
use Rattle.config_file.specs.Spelling.{IsGitSpelling, git_spelled}
use Rattle.config_file.specs.Reading.Spellings.{is_spellable}
use Rattle.config_edit.specs.Cut as cut
use Rattle.config_edit.specs.Cut.{AreBlank, BecomesParts, Cuts, EachBecomes, IsTail, Part, part_bytes}
use Rattle.config_edit.specs.Cut.{ends_in_header, section_after}
use Rattle.config_edit.specs.Edit as edit
use Rattle.config_edit.specs.Edit.{content, Content, HasContents, HasNone, HasValue, IsCore, IsEntryOf, IsOf}
use Rattle.config_edit.specs.Edit.{ReplacesKey, ReplacesPart, Without}
use Rattle.config_edit.specs.Edit.{CanFollow, is_item, IsIn, IsEndOfLine}
use Rattle.config_edit.proofs.Changed.{last_holds, last_of}
use Rattle.config_edit.proofs.Cuts.{no_part, same_last}

-- keys of sections without a subsection
abbrev pub plain_key : List ℕ → List ℕ → Key
plain_key section name = record { section = section; subsection = None; name = name }

pub plain_is : (section name : List ℕ) → list_all is_no_dot section ≡ true → list_all is_no_dot name ≡ true
    → has_section (plain_key section name) ≡ true → is_section section ≡ true → is_name name ≡ true
    → IsKey (written (plain_key section name)) (plain_key section name)
plain_is section name no_dot none some is is_a_name =
    record {
      cut = record { joined = refl; section = no_dot; name = none };
      accepted = record { some_section = some; section = is; subsection = refl; name = is_a_name };
    }

abbrev pub ak : Key
ak = plain_key (codes "a") (codes "k")

pub ak_is : IsKey (codes "a.k") ak
ak_is = plain_is (codes "a") (codes "k") refl refl refl refl refl

abbrev pub gitproxy : Key
gitproxy = plain_key (codes "core") (codes "gitproxy")

pub gitproxy_is : IsKey (codes "core.gitproxy") gitproxy
gitproxy_is = plain_is (codes "core") (codes "gitproxy") refl refl refl refl refl

-- the contents of a text
pub reads : (text : List ℕ) {contents : List Content} → (each_is_read text).1 ≡ None
    → map content (each_is_read text).0 ≡ contents
    → HasContents text contents
reads text none contents_are = ((each_is_read text).0, rw none at (each_is_read text).2, contents_are)

-- values of plain bytes and blanks
abbrev pub is_worded : ℕ → Bool
is_worded b = is_blank b || is_plain false b

abbrev pub text_of : List ℕ → List ℕ → List ℕ → List ℕ
text_of so_far held [] = so_far
text_of so_far held (b ∷ raw) =
    if is_blank b then text_of so_far (held ++ b ∷ []) raw else text_of (kept so_far held ++ b ∷ []) [] raw

pub spelled : (so_far held raw : List ℕ) → list_all is_worded raw ≡ true
    → Spells itself false so_far held raw (text_of so_far held raw) value.outside
spelled so_far held [] all = value.ends_outside
spelled so_far held (b ∷ raw) all =
    let (first, others) = and_parts (is_worded b) (list_all is_worded raw) all in
    elim (cases_Bool (is_blank b)) [
      | inl is ↦ rw is (value.blank is (spelled so_far (held ++ b ∷ []) raw others))
      | inr off ↦ rw off (value.plain (ap (λ t. t || is_plain false b) (sym off)
          ∙ first) (spelled (kept so_far held ++ b ∷ []) [] raw others))
    ]

pub has_value : (raw : List ℕ) → list_all is_worded raw ≡ true → HasValue (Some raw) (text_of [] [] raw)
has_value raw all = (value.outside, spelled [] [] raw all)

pub has_other : (raw text : List ℕ) → list_all is_worded raw ≡ true
    → (get_or (text_of [] [] raw) 0 0 == get_or text 0 0) ≡ false
    → HasValue (Some raw) text → ⊥
has_other raw text all apart (ending, s) =
    eqb-false _ _ apart (ap (λ t. get_or t 0 0) (one_text (spelled [] [] raw all) s))

pub as_git : (value : List ℕ) → is_spellable value ≡ true → IsGitSpelling (git_spelled value) value
as_git value is = (git_spelling value is, refl)

pub core : (bytes : List ℕ) → bytes ≢ [] → list_all (λ b. not (is_blank b)) bytes ≡ true → IsCore bytes
core bytes some all = (
  some,
  λ b more e. not-true (is_blank b)
      (and_parts (not (is_blank b)) _ (subst (λ t. list_all (λ b. not (is_blank b)) t ≡ true) e all)).0,
  λ more b e. not-true (is_blank b)
      (last_holds (λ b. not (is_blank b)) more b
      (subst (λ t. list_all (λ b. not (is_blank b)) t ≡ true) e all)),
)

-- parts
abbrev pub feed_tail : (rest : List ℕ) → IsTail (codes "\n") rest true
feed_tail rest = record {
  blanks = [];
  comment = [];
  are_blank = refl;
  is_comment = cut.absent;
  ends = inl
      (refl, refl);
}

pub comment_tail : (sign : ℕ) (bytes rest : List ℕ) → is_comment_sign sign ≡ true
    → list_all is_comment_byte bytes ≡ true
    → IsTail ((sign ∷ bytes) ++ codes "\n") rest true
comment_tail sign bytes rest is all =
    record {
      blanks = [];
      comment = sign
          ∷ bytes;
      are_blank = refl;
      is_comment = cut.present is all;
      ends = inl (refl, refl);
    }

abbrev pub top : List ℕ → Part
top name = cut.header [] (name, None) (name ++ codes "]")

abbrev pub end : Part
end = cut.line (codes "\n") true

abbrev pub valued : List ℕ → List ℕ → List ℕ → List ℕ → List ℕ → Part
valued blanks name spaces raw tail = cut.entry blanks name (spaces ++ codes "=") (Some raw) tail true

pub at_end : {rest : List ℕ} {parts : List Part} → Cuts rest parts → Cuts (10 ∷ rest) (end ∷ parts)
at_end {rest = rest} cuts = cut.begins end (λ e. cc, feed_tail rest) cuts

pub at_top : {rest : List ℕ} {parts : List Part} (name : List ℕ) → name ≢ []
    → list_all is_name_byte name ≡ true → Cuts rest parts
    → Cuts (part_bytes (top name) ++ rest) (top name ∷ parts)
at_top {rest = rest} name some all cuts =
    cut.begins (top name) (
      refl,
      header.plain (record {
        joined = append_assoc name
            (codes "]") rest;
        pass = all;
        longest = refl;
      }) some refl,
    ) cuts

at_line : {rest : List ℕ} {parts : List Part} (tail : List ℕ) → tail ≢ [] → IsTail tail rest true
    → Cuts rest parts
    → Cuts (tail ++ rest) (cut.line tail true ∷ parts)
at_line tail some is cuts = cut.begins (cut.line tail true) (some, is) cuts

-- a line with a comment, behind these blanks
pub at_comment : {rest : List ℕ} {parts : List Part} (blanks : List ℕ) (sign : ℕ) (bytes : List ℕ)
    → AreBlank blanks
    → is_comment_sign sign ≡ true → list_all is_comment_byte bytes ≡ true → Cuts rest parts
    → Cuts ((blanks ++ ((sign ∷ bytes) ++ codes "\n")) ++ rest)
    (cut.line (blanks ++ ((sign ∷ bytes) ++ codes "\n")) true ∷ parts)
at_comment [] sign bytes blank is all cuts = at_line _ (λ e. cc) (comment_tail sign bytes _ is all) cuts
at_comment (b ∷ blanks) sign bytes blank is all cuts =
    at_line _ (λ e. cc) (record {
      blanks = b ∷ blanks;
      comment = sign ∷ bytes;
      are_blank = blank;
      is_comment = cut.present is all;
      ends = inl (refl, refl);
    }) cuts

stops_key : (spaces rest : List ℕ) → list_all is_space spaces ≡ true
    → StopsRun is_key_byte (spaces ++ 61 ∷ rest)
stops_key [] rest all = refl
stops_key (b ∷ spaces) rest all =
    let first = (and_parts (is_space b) (list_all is_space spaces) all).0 in grind (arith, nat_tests)

pub at_entry : {rest : List ℕ} {parts : List Part} (blanks : List ℕ) (letter : ℕ)
    (name spaces raw tail : List ℕ) → AreBlank blanks
    → is_name (letter ∷ name) ≡ true → list_all is_key_byte (letter ∷ name) ≡ true
    → list_all is_space spaces ≡ true
    → list_all is_worded raw ≡ true → EndsValue (tail ++ rest) → IsTail tail rest true → Cuts rest parts
    → Cuts (part_bytes (valued blanks (letter ∷ name) spaces raw tail) ++ rest)
    (valued blanks (letter ∷ name) spaces raw tail ∷ parts)
at_entry {rest = rest} blanks letter name spaces raw tail blank is_key pass space worded ends is cuts =
    let at = tail ++ rest in
    let joined : (letter ∷ (name ++ ((spaces ++ codes "=") ++ raw))) ++ at ≡ (letter ∷ name) ++ (spaces ++ 61 ∷ (raw ++ at)) =
    ap (λ t. letter ∷ t) (append_assoc name ((spaces ++ codes "=") ++ raw) at
    ∙ ap (λ t. name ++ t) (append_assoc (spaces ++ codes "=") raw at
    ∙ append_assoc spaces (codes "=") (raw ++ at))) in
    cut.begins (valued blanks (letter ∷ name) spaces raw tail) (
      blank,
      (letter, name ++ ((spaces ++ codes "=") ++ raw), refl, (and_parts _ _ is_key).0),
      (
        value.line_feeds raw,
        file.valued {after = raw ++ (tail ++ rest)} (record {
          spaced = spaces ++ 61 ∷ (raw ++ (tail ++ rest));
          spaces = spaces;
          key_run = record { joined = joined; pass = pass; longest = stops_key spaces _ space };
          space_run = record { joined = refl; pass = space; longest = refl };
        }) refl (value.closed refl (spelled [] [] raw worded) ends),
      ),
      is,
    ) cuts

-- what parts become
pub becomes : {May : List Part → Part → List ℕ → Type 0} {old new : List ℕ} {parts : List Part}
    → after_mark old ≡ None → Cuts old parts
    → EachBecomes May parts new → BecomesParts May old new
becomes {old = old} {new = new} {parts = parts} unmarked cuts each =
    ([], parts, new, (old, cut.unmarked unmarked, cuts), each, refl)

pub same : {key : Key} {value : List ℕ} {last : ℕ} {before : List Part} {new : List ℕ} (part : Part)
    → ¬ (IsEntryOf key before part)
    → EachBecomes (ReplacesPart key value last) before new
    → EachBecomes (ReplacesPart key value last) (before ++ part ∷ []) (new ++ part_bytes part)
same part other each = cut.next part (part_bytes part) each (edit.stays other)

-- an entry of the key gets the value, and these before it go
pub replaces : {key : Key} {value old new : List ℕ} (before left after : List Content) (x : Content)
    (raw : List ℕ)
    → HasContents new (left ++ (x.0, x.1, Some raw) ∷ after) → IsOf key x → HasNone key after
    → Without key None before left
    → HasValue (Some raw) value → BecomesParts (ReplacesPart key value (length before)) old new
    → ReplacesKey key value old (before ++ x ∷ after) new
replaces before left after x raw has is_of last others has_value becomes = (
  left ++ (x.0, x.1, Some raw) ∷ after,
  has,
  record {
    before = before;
    left = left;
    after = after;
    x = x;
    raw = raw;
    old_is = refl;
    is_of = is_of;
    last = last;
    others = others;
    has_value = has_value;
    new_is = refl;
  },
  becomes,
)

-- behind these parts, a new entry of the key can stand at none of those that follow
abbrev pub NoneFollows : Key → List Part → List Part → Type 0
NoneFollows key front [] = ⊤
NoneFollows key front (part ∷ back) =
    ¬ (CanFollow key (front ++ part ∷ [])) × NoneFollows key (front ++ part ∷ []) back

pub is_last : (key : Key) (front back : List Part) → NoneFollows key front back → (more left : List Part)
    → back ≡ more ++ left
    → CanFollow key (front ++ more) → more ≡ []
is_last key front [] none [] left e can = refl
is_last key front (part ∷ back) none [] left e can = refl
is_last key front [] none (part ∷ more) left e can = absurd (cc)
is_last key front (part ∷ back) none (other ∷ more) left e can =
    let parts : part ≡ other = cc in
    let all : back ≡ more ++ left = cc in
    let behind = subst (λ t. CanFollow key t) (sym (append_assoc front (part ∷ []) more)) (rw (← parts) at can) in
    let nothing = is_last key (front ++ part ∷ []) back none.1 more left all behind in
    absurd (none.0 (rw (nothing, ← parts) at can))

pub is_nowhere : (key : Key) (parts : List Part) → NoneFollows key [] parts → (front back : List Part)
    → parts ≡ front ++ back
    → ¬ (CanFollow key front)
is_nowhere key parts none front back e = λ can.
    let (before, last, joined, inside, either) = can in
    no_part before last (sym (is_last key [] parts none front back e can) ∙ joined)

pub no_item : (key : Key) (before : List Part) (part : Part) → is_item part ≡ false
    → ends_in_header before ≡ false
    → ¬ (CanFollow key (before ++ part ∷ []))
no_item key before part item header = λ (front, last, joined, inside, either).
    let (fronts, parts) = same_last before front part last joined in
    elim either [
      | inl is ↦ true≢false (sym is ∙ rw parts at item)
      | inr is ↦ true≢false (sym is ∙ rw fronts at header)
    ]

pub elsewhere : (key : Key) (parts : List Part) → ¬ (IsIn key (section_after parts)) → ¬ (CanFollow key parts)
elsewhere key parts outside = λ (before, last, joined, inside, either). outside inside

listed_is : {section : Section} {listed : List ℕ} → IsListedSection section listed → section.1 ≡ None
    → listed ≡ map to_ascii_lowercase section.0 ++ 46 ∷ []
listed_is listing.plain e = refl
listed_is (listing.quoted spelled) e = cc

pub not_in : (key : Key) (name : List ℕ)
    → (get_or (stem key ++ 46 ∷ []) 0 0 == get_or (map to_ascii_lowercase name ++ 46 ∷ []) 0 0) ≡ false
    → ¬ (IsIn key (Some (name, None)))
not_in key name apart = λ is. eqb-false _ _ apart (ap (λ t. get_or t 0 0) (listed_is is refl))

-- the line end of a line without a CR
pub feed_end : (bytes : List ℕ) (b : ℕ) → b ≢ 13 → IsEndOfLine ((bytes ++ b ∷ []) ++ 10 ∷ []) true (10 ∷ [])
feed_end bytes b off =
    edit.feed (λ front e. off (last_of bytes front b 13
    (last_of (bytes ++ b ∷ []) (front ++ 13 ∷ []) 10 10 (e
    ∙ sym (append_assoc front (13 ∷ []) (10 ∷ [])))).0).1)

at_feed : (rest : List ℕ) → IsAtLineEnd (10 ∷ rest)
at_feed [] = refl
at_feed (b ∷ rest) = inl refl

-- a key alone
pub at_key : {rest : List ℕ} {parts : List Part} (blanks : List ℕ) (letter : ℕ) (name : List ℕ)
    → AreBlank blanks
    → is_name (letter ∷ name) ≡ true → list_all is_key_byte (letter ∷ name) ≡ true → Cuts rest parts
    → Cuts (part_bytes (cut.entry blanks (letter ∷ name) [] None (codes "\n") true) ++ rest)
    (cut.entry blanks (letter ∷ name) [] None (codes "\n") true ∷ parts)
at_key {rest = rest} blanks letter name blank is_key pass cuts =
    cut.begins (cut.entry blanks (letter ∷ name) [] None (codes "\n") true) (
      blank,
      (letter, name ++ [], refl, (and_parts _ _ is_key).0),
      (
        0,
        file.alone (record {
          spaced = 10 ∷ rest;
          spaces = [];
          key_run = record {
            joined = ap (λ t. letter ∷ (t ++ 10 ∷ rest))
                (append-nil name);
            pass = pass;
            longest = refl;
          };
          space_run = record { joined = refl; pass = refl; longest = refl };
        }) (at_feed rest),
      ),
      feed_tail rest,
    ) cuts
