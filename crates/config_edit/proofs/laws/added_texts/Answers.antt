use Rattle.std.proofs.Common.{◌≡◌, ◌≢◌, ℕ, true, false, List, [], ◌∷◌, ◌++◌, Some, None, codes, length, refl}
use Rattle.std.proofs.Common.{ap, arith, inl, inr}
use Rattle.config_file.specs.Header as header
use Rattle.config_file.specs.Listing as listing
use Rattle.config_file.specs.File as file
use Rattle.config_file.specs.Value as value
use Rattle.config_file.specs.Key.{Key, IsKey}
use Rattle.config_file.specs.Spelling.{git_spelled}
use Rattle.config_edit.specs.Cut as cut
use Rattle.config_edit.specs.Cut.{Cuts, IsTail, Part, parts_bytes}
use Rattle.config_edit.specs.Edit as spec
use Rattle.config_edit.specs.Edit.{AddsContent, AddsOne, Content, HasValue, IsIn, IsOpen, IsWrittenHeader}
use Rattle.config_edit.specs.Edit.{NoneIn, PutsLine}
use Rattle.config_edit.proofs.Added.{one_ending}
use Rattle.config_edit.proofs.Changed.{spells_between}
use Rattle.config_edit.proofs.Closed.{same_entries}
use Rattle.config_file.specs.Header.{Section}
use Rattle.config_edit.proofs.OneEdit.{one_added}
use Rattle.config_edit.proofs.Literals.{as_git, at_comment, at_end, at_entry, at_key, at_top, comment_tail}
use Rattle.config_edit.proofs.Literals.{end, feed_end, feed_tail}
use Rattle.config_edit.proofs.Literals.{has_value, is_last, is_nowhere, no_item, not_in, plain_key, reads}
use Rattle.config_edit.proofs.Literals.{spelled, top, valued}
use Rattle.config_edit.proofs.Literals.{ak, ak_is, elsewhere, gitproxy, gitproxy_is}
use Rattle.config_edit.proofs.laws.added_texts.Goals as goal

adds_one : {key : Key} {value : List ℕ} (before after : List Content) (section : Section) (raw : List ℕ)
    → IsIn key (Some section)
    → HasValue (Some raw) value → NoneIn key after
    → AddsContent key value (before ++ after) (before ++ (Some section, key.name, Some raw) ∷ after)
adds_one before after section raw in_section has_value last =
    record {
      before = before;
      kept = before;
      after = after;
      section = section;
      raw = raw;
      old_is = refl;
      same = same_entries before;
      in_section = in_section;
      has_value = has_value;
      new_is = refl;
      last = last;
    }

-- above a comment
above : AddsOne (codes "a.k") (codes "1") (codes "[a]\n# b # c\n") (codes "[a]\n\tk = 1\n# b # c\n")
above =
    let old = codes "[a]\n# b # c\n" in
    let new = codes "[a]\n\tk = 1\n# b # c\n" in
    let comment = cut.line (codes "# b # c\n") true in
    let cuts = at_top (codes "a") (λ e. cc) refl (at_end (at_comment [] 35 (codes " b # c") refl refl refl cut.ends)) in
    let adds = adds_one {key = ak} {value = codes "1"} [] [] (codes "a", None) (codes " 1") listing.plain (has_value (codes " 1") refl) spec.none in
    let puts : PutsLine ak (codes "1") old new = record {
      mark = [];
      front = top (codes "a") ∷ end ∷ [];
      back = comment ∷ [];
      feed = codes "\n";
      ends = [];
      header = [];
      headed = [];
      spelling = codes "1";
      has_parts = (old, cut.unmarked refl, cuts);
      is_feed = spec.of_front (codes "[a]", [], refl, refl, feed_end (codes "[a") 93 (omega arith));
      are_ends = spec.ended (top (codes "a") ∷ []) end refl;
      is_place = spec.inside (top (codes "a") ∷ [], end, refl, listing.plain, inr refl)
          (is_last ak (top (codes "a") ∷ end ∷ []) (comment ∷ [])
          (no_item ak (top (codes "a") ∷ end ∷ []) comment refl refl, tt));
      spells = as_git (codes "1") refl;
      new_is = refl;
    } in
    (ak, ak_is, [], reads old refl refl, (_, reads new refl refl, adds, puts))

pub returns-clause-above_comment : goal.returns-clause-above_comment
returns-clause-above_comment c = above

pub returns-clause-no_comment_cut : goal.returns-clause-no_comment_cut
returns-clause-no_comment_cut c = λ adds.
    let sizes : ◌≡◌ {A = ℕ} 19 22 = ap (λ t. length t) (one_added _ _ _ _ _ above adds) in omega arith

pub returns-clause-no_other_spelling : goal.returns-clause-no_other_spelling
returns-clause-no_other_spelling c = λ adds.
    let sizes : ◌≡◌ {A = ℕ} 19 23 = ap (λ t. length t) (one_added _ _ _ _ _ above adds) in omega arith

-- in a new section, behind a line without a line end
abbrev last_l : Part
last_l = cut.entry (codes "\t") (codes "l") (codes " =") (Some (codes " 3")) [] false

not_open : ¬ (IsOpen last_l)
not_open = λ (text, s). one_ending (spelled [] [] (codes " 3") refl) s

ends_here : IsTail [] [] false
ends_here = record {
  blanks = [];
  comment = [];
  are_blank = refl;
  is_comment = cut.absent;
  ends = inr (
    refl,
    refl,
    refl,
  );
}

at_last : Cuts (codes "\tl = 3") (last_l ∷ [])
at_last =
    cut.begins last_l (
      refl,
      (108, codes " = 3", refl, refl),
      (
        0,
        file.valued (record {
          spaced = codes " = 3";
          spaces = codes " ";
          key_run = record { joined = refl; pass = refl; longest = refl };
          space_run = record { joined = refl; pass = refl; longest = refl };
        }) refl (value.closed refl (spelled [] [] (codes " 3") refl) tt),
      ),
      ends_here,
    ) cut.ends

written : IsWrittenHeader ak (codes "[a]")
written = (
  (
    codes "a]",
    (codes "a", None),
    refl,
    (refl, tt),
    λ rest. header.plain (record { joined = refl; pass = refl; longest = refl }) (λ e. cc) refl,
  ),
  refl,
)

pub returns-clause-new_section : goal.returns-clause-new_section
returns-clause-new_section c =
    let old = codes "[b]\n\tl = 3" in
    let new = codes "[b]\n\tl = 3\n[a]\n\tk = 1\n" in
    let l : Content = (Some (codes "b", None), codes "l", Some (codes " 3")) in
    let parts = top (codes "b") ∷ end ∷ last_l ∷ [] in
    let cuts = at_top (codes "b") (λ e. cc) refl (at_end at_last) in
    let not_b = not_in ak (codes "b") refl in
    let adds = adds_one {key = ak} {value = codes "1"} (l ∷ []) [] (codes "a", None) (codes " 1") listing.plain (has_value (codes " 1") refl) spec.none in
    let puts : PutsLine ak (codes "1") old new = record {
      mark = [];
      front = parts;
      back = [];
      feed = codes "\n";
      ends = codes "\n";
      header = codes "[a]";
      headed = codes "[a]\n";
      spelling = codes "1";
      has_parts = (old, cut.unmarked refl, cuts);
      is_feed = spec.of_front (
        codes "[b]",
        codes "\tl = 3",
        refl,
        refl,
        feed_end (codes "[b") 93 (omega arith),
      );
      are_ends = spec.unended (top (codes "b") ∷ end ∷ []) last_l refl not_open;
      is_place = spec.at_end (is_nowhere ak parts (
        elsewhere ak _ not_b,
        (elsewhere ak _ not_b, (elsewhere ak _ not_b, tt)),
      )) written;
      spells = as_git (codes "1") refl;
      new_is = refl;
    } in
    (ak, ak_is, l ∷ [], reads old refl refl, (_, reads new refl refl, adds, puts))

-- behind an entry with a comment, before another section
pub returns-clause-behind_comment : goal.returns-clause-behind_comment
returns-clause-behind_comment c =
    let old = codes "[core]\n\tgitproxy=default-proxy ; for all the rest\n\n; HTTP\n[http]\n\tsslVerify\n" in
    let new = codes "[core]\n\tgitproxy=default-proxy ; for all the rest\n\tgitproxy = \\\"proxy-command\\\" for example.com\n\n; HTTP\n[http]\n\tsslVerify\n" in
    let text = codes "\"proxy-command\" for example.com" in
    let default : Content = (Some (codes "core", None), codes "gitproxy", Some (codes "default-proxy ")) in
    let verify : Content = (Some (codes "http", None), codes "sslVerify", None) in
    let comment = cut.line (codes "; HTTP\n") true in
    let key_alone = cut.entry (codes "\t") (codes "sslVerify") [] None (codes "\n") true in
    let front = top (codes "core") ∷ end ∷ valued (codes "\t") (codes "gitproxy") [] (codes "default-proxy ") (codes "; for all the rest\n") ∷ [] in
    let cuts = at_top (codes "core") (λ e. cc) refl (at_end
    (at_entry (codes "\t") 103 (codes "itproxy") [] (codes "default-proxy ")
    (codes "; for all the rest\n") refl refl refl refl refl (inr refl)
    (comment_tail 59 (codes " for all the rest") _ refl refl)
    (at_end (at_comment [] 59 (codes " HTTP") refl refl refl
    (at_top (codes "http") (λ e. cc) refl
    (at_end (at_key (codes "\t") 115 (codes "slVerify") refl refl refl cut.ends))))))) in
    let not_http = not_in gitproxy (codes "http") refl in
    let raw = codes " " ++ (git_spelled text ++ []) in
    let has : HasValue (Some raw) text = (value.outside, spells_between (codes " ") [] refl refl (as_git text refl).0.0) in
    let adds = adds_one {key = gitproxy} {value = text} (default ∷ []) (verify ∷ []) (codes "core", None) raw listing.plain has (spec.kept verify spec.none not_http) in
    let puts : PutsLine gitproxy text old new = record {
      mark = [];
      front = front;
      back = end ∷ comment ∷ top (codes "http") ∷ end ∷ key_alone ∷ [];
      feed = codes "\n";
      ends = [];
      header = [];
      headed = [];
      spelling = git_spelled text;
      has_parts = (old, cut.unmarked refl, cuts);
      is_feed = spec.of_front (
        codes "[core]\n\tgitproxy=default-proxy ; for all the rest",
        [],
        refl,
        refl,
        feed_end (codes "[core]\n\tgitproxy=default-proxy ; for all the res") 116 (omega arith),
      );
      are_ends = spec.ended (top (codes "core") ∷ end ∷ [])
          (valued (codes "\t") (codes "gitproxy") [] (codes "default-proxy ")
          (codes "; for all the rest\n")) refl;
      is_place = spec.inside (
        top (codes "core") ∷ end ∷ [],
        valued (codes "\t") (codes "gitproxy") [] (codes "default-proxy ") (codes "; for all the rest\n"),
        refl,
        listing.plain,
        inl refl,
      )
          (is_last gitproxy front (end ∷ comment ∷ top (codes "http") ∷ end ∷ key_alone ∷ []) (
            no_item gitproxy front end refl refl,
            (
              no_item gitproxy (front ++ end ∷ []) comment refl refl,
              (
                elsewhere gitproxy _ not_http,
                (elsewhere gitproxy _ not_http, (elsewhere gitproxy _ not_http, tt)),
              ),
            ),
          ));
      spells = as_git text refl;
      new_is = refl;
    } in
    (gitproxy, gitproxy_is, default ∷ verify ∷ [], reads old refl refl, (_, reads new refl refl, adds, puts))
