-- If each name has at most one content, a text has at most one walk.
use Rattle.std.proofs.Common.{◌≡◌, ℕ, zero, suc, ◌+◌, ◌||◌, Bool, true, false, List, [], ◌∷◌, ◌++◌, Option, None}
use Rattle.std.proofs.Common.{Some, map, refl, sym, ap, ◌∙◌, arith, ◌⊎◌, inl, inr}
use Rattle.std.proofs.lemmas.List.{append_assoc, append-nil}
use Rattle.std.proofs.lemmas.List.Elements.{All-head, All-tail}
use Rattle.std.specs.List.{All}
use Rattle.config_file.specs.File.{Entry, IsFile}
use Rattle.config_file.specs.Walk as walk
use Rattle.config_file.specs.Walk.{Content, Text, Missing, Unreadable, Stop, Line, NoValue, Unknown, NotRead}
use Rattle.config_file.specs.Include.{Forbids, IsForbidden}
use Rattle.config_file.specs.Walk.{TooDeep, ForbiddenUrl, Item, Found, Stops, Walks, WalksText, HasOneContent}
use Rattle.config_file.specs.declared.errors.FileError.{FileError}
use Rattle.config_file.specs.declared.walk.Known.{Known}
use Rattle.config_file.specs.declared.walk.FilePlace.{FilePlace}
use Rattle.config_file.proofs.EachListed.{IsRead, entries_are_read}
use Rattle.config_file.proofs.OneReading.{one_reading}
use Rattle.config_file.proofs.OneInclude as aim
use Rattle.config_file.proofs.OneInclude.{Aim, Aims, one_aim, one_forbids, one_forbidden}

-- ---- beginnings

-- a list begins with this one, and is this one if the flag says that it is whole
pub record Begins {X : Type 0} (a : List X) (whole : Bool) (b : List X) : Type 0 where
  pub more : List X
  pub joined : b ≡ a ++ more
  pub all : whole ≡ true → more ≡ []

abbrev pub Agree : {X : Type 0} → List X → Bool → List X → Bool → Type 0
Agree a v b w = Begins a v b ⊎ Begins b w a

flip : {X : Type 0} {a b : List X} {v w : Bool} → Agree a v b w → Agree b w a v
flip (inl is) = inr is
flip (inr is) = inl is

after : {X : Type 0} (front : List X) {a b : List X} {w : Bool} → Begins a w b
    → Begins (front ++ a) w (front ++ b)
after front {a = a} is =
    record { more = is.more; joined = rw is.joined (sym (append_assoc front a is.more)); all = is.all }

agree_after : {X : Type 0} (front : List X) {a b : List X} {v w : Bool} → Agree a v b w
    → Agree (front ++ a) v (front ++ b) w
agree_after front (inl is) = inl (after front is)
agree_after front (inr is) = inr (after front is)

itself : {X : Type 0} {a b : List X} {w : Bool} → b ≡ a → Begins a w b
itself {a = a} is = record { more = []; joined = is ∙ sym (append-nil a); all = λ e. refl }

whole_same : {X : Type 0} {a b : List X} → Begins a true b → b ≡ a
whole_same {a = a} is = is.joined ∙ ap (λ x. a ++ x) (is.all refl) ∙ append-nil a

pub wholes_same : {X : Type 0} {a b : List X} → Agree a true b true → a ≡ b
wholes_same (inl is) = sym (whole_same is)
wholes_same (inr is) = whole_same is

-- a walk that ends within a file begins the walk that goes on after that file
cut_begins : {X : Type 0} {a b : List X} (rest : List X) → Agree a true b false → Begins b false (a ++ rest)
cut_begins rest (inl is) = record { more = rest; joined = rw (whole_same is); all = λ e. cc }
cut_begins {b = b} rest (inr is) =
    record { more = is.more ++ rest; joined = rw is.joined (append_assoc b is.more rest); all = λ e. cc }

-- a walk that is cut comes to nothing more
abbrev IsCut : {X : Type 0} → List X → Bool → Type 0
IsCut items whole = (items ≡ []) × (whole ≡ false)

-- what walks come to within two files, and then after them
joins : {X : Type 0} {x y rest left : List X} {v w : Bool} (s t : Bool) → Agree x s y t
    → (s ≡ false → IsCut rest v) → (t ≡ false → IsCut left w) → (s ≡ true → t ≡ true → Agree rest v left w)
    → Agree (x ++ rest) v (y ++ left) w
joins {y = y} true true is first second both = rw (wholes_same is) (agree_after y (both refl refl))
joins {y = y} {rest = rest} true false is first second both =
    let (none, cut) = second refl in rw (none, cut, append-nil y) (inr (cut_begins rest is))
joins {x = x} {left = left} false true is first second both =
    let (none, cut) = first refl in rw (none, cut, append-nil x) (inl (cut_begins left (flip is)))
joins {x = x} {y = y} false false is first second both =
    let (none, cut) = first refl in
    let (no_more, also) = second refl in
    rw (none, cut, no_more, also, append-nil x, append-nil y) is

-- a walk that is cut begins each other one
unless_cut : {X A B : Type 0} {a b : List X} {v w : Bool} → IsCut a v ⊎ A → IsCut b w ⊎ B
    → (A → B → Agree a v b w) → Agree a v b w
unless_cut {b = b} (inl (none, cut)) second both =
    inl (record { more = b; joined = rw none; all = λ e. cc })
unless_cut {a = a} (inr x) (inl (none, cut)) both =
    inr (record { more = a; joined = rw none; all = λ e. cc })
unless_cut (inr x) (inr y) both = both x y

-- ---- what an entry leads to

-- the walk goes on after the entry, with these stops, or it enters a text
data Way : Type 0 where
  over : List Stop → Way
  into : ℕ → List ℕ → List ℕ → List ℕ → Way

abbrev way : Entry → ℕ → List ℕ → Content → Way
way entry depth name Missing = over []
way entry depth name Unreadable = over (NotRead entry ∷ [])
way entry zero name (Text dir text) = over (TooDeep entry ∷ [])
way entry (suc less) name (Text dir text) = into less name dir text

-- an entry that includes no file leads on, or to a stop if it is a URL that is forbidden
abbrev beyond : Entry → Bool → Way
beyond entry true = over (ForbiddenUrl entry ∷ [])
beyond entry false = over []

abbrev Leads : (List ℕ → Content → Type 0) → ℕ → Bool → Entry → Aim → Way → Type 0
Leads contents depth here entry aim.no_file to =
    (forbidden : Bool) × IsForbidden here entry forbidden × (to ≡ beyond entry forbidden)
Leads contents depth here entry aim.no_value to = to ≡ over (NoValue entry ∷ [])
Leads contents depth here entry aim.unknown to = to ≡ over (Unknown entry ∷ [])
Leads contents depth here entry (aim.file name) to =
    (content : Content) × contents name content × (to ≡ way entry depth name content)

entered : (entry : Entry) (depth less : ℕ) (name dir text : List ℕ) → depth ≡ less + 1
    → into less name dir text ≡ way entry depth name (Text dir text)
entered entry zero less name dir text deep = absurd (omega arith)
entered entry (suc n) less name dir text deep = let same : less ≡ n = omega arith in rw same

one_way : {contents : List ℕ → Content → Type 0} (depth : ℕ) (here : Bool) (entry : Entry) (at : Aim) (a b : Way)
    → HasOneContent contents → IsRead entry → Leads contents depth here entry at a
    → Leads contents depth here entry at b → a ≡ b
one_way depth here entry aim.no_file a b one read (v, says, is) (w, also, so) =
    is ∙ ap (beyond entry) (one_forbidden here entry read says also) ∙ sym so
one_way depth here entry aim.no_value a b one read is so = is ∙ sym so
one_way depth here entry aim.unknown a b one read is so = is ∙ sym so
one_way depth here entry (aim.file name) a b one read (c, holds, is) (d, also, so) =
    is ∙ ap (way entry depth name) (one name c d holds also) ∙ sym so

abbrev stops : List ℕ → List Stop → List (List ℕ × Item)
stops name all = map (λ stop. (name, Stops stop)) all

-- the items of a walk after an entry, which leads this way
abbrev GoesOn : (List ℕ → Content → Type 0) → Known → ℕ → Bool → FilePlace → Entry → List Entry → Option FileError
    → List (List ℕ × Item) → Bool → Way → Type 0
GoesOn contents known depth here place entry entries error items whole (over all) = (rest : List (List ℕ × Item))
    × (items ≡ stops place.name.now all ++ rest) × Walks contents known depth here place entries error rest whole
GoesOn contents known depth here place entry entries error items whole (into less name dir text) = (at : FilePlace)
    × (forbids : Bool) × Forbids known.includes entry forbids × (inner : List Entry) × (end : Option FileError) × (within rest : List (List ℕ × Item)) × (all : Bool)
    × (depth ≡ less + 1) × (at.name.now ≡ name) × (at.real_dir.now ≡ dir) × IsFile text inner end
    × (items ≡ within ++ rest) × Walks contents known less (here || forbids) at inner end within all
    × (all ≡ true → Walks contents known depth here place entries error rest whole)
    × (all ≡ false → IsCut rest whole)

record Turn (contents : List ℕ → Content → Type 0) (known : Known) (depth : ℕ) (here : Bool) (place : FilePlace)
    (entry : Entry) (entries : List Entry) (error : Option FileError) (items : List (List ℕ × Item)) (whole : Bool)
    : Type 0 where
  at : Aim
  aims : Aims known place.name.now place.real_dir.now entry at
  to : Way
  leads : Leads contents depth here entry at to
  left : List (List ℕ × Item)
  joined : items ≡ (place.name.now, Found entry) ∷ left
  goes_on : GoesOn contents known depth here place entry entries error left whole to

module _ {contents : List ℕ → Content → Type 0} {known : Known} {depth : ℕ} {here : Bool} {place : FilePlace}
    {entry : Entry} {entries : List Entry} {error : Option FileError} where
  turn_over : {rest : List (List ℕ × Item)} {whole : Bool} (at : Aim) (all : List Stop)
      → Aims known place.name.now place.real_dir.now entry at → Leads contents depth here entry at (over all)
      → Walks contents known depth here place entries error rest whole
      → Turn contents known depth here place entry entries error
      ((place.name.now, Found entry) ∷ (stops place.name.now all ++ rest)) whole
  turn_over {rest = rest} at all is leads more = record {
    at = at;
    aims = is;
    to = over all;
    leads = leads;
    left = stops place.name.now all ++ rest;
    joined = refl;
    goes_on = (rest, refl, more);
  }

  turn : {items : List (List ℕ × Item)} {whole : Bool}
      → Walks contents known depth here place (entry ∷ entries) error items whole
      → IsCut items whole ⊎ Turn contents known depth here place entry entries error items whole
  turn walk.cut = inl (refl, refl)
  turn (walk.plain is free more) = inr (turn_over aim.no_file [] is (false, free, refl) more)
  turn (walk.forbidden_url is forbidden more) =
      inr (turn_over aim.no_file (ForbiddenUrl entry ∷ []) is (true, forbidden, refl) more)
  turn (walk.missing name is holds more) = inr (turn_over (aim.file name) [] is (Missing, holds, refl) more)
  turn (walk.included {items = rest} less at text forbids inner end within is holds says file deep walks more) =
      inr (record {
        at = aim.file at.name.now;
        aims = is;
        to = into less at.name.now at.real_dir.now text;
        leads = (Text at.real_dir.now text, holds, entered entry depth less at.name.now _ text deep);
        left = within ++ rest;
        joined = refl;
        goes_on = (at, forbids, says, inner, end, within, rest, true, deep, refl, refl, file, refl, walks, λ e. more, λ e. cc);
      })
  turn (walk.cut_within less at text forbids inner end within is holds says file deep walks) =
      inr (record {
        at = aim.file at.name.now;
        aims = is;
        to = into less at.name.now at.real_dir.now text;
        leads = (Text at.real_dir.now text, holds, entered entry depth less at.name.now _ text deep);
        left = within;
        joined = refl;
        goes_on = (at, forbids, says, inner, end, within, [], false, deep, refl, refl, file, sym (append-nil within), walks, λ e. cc, λ e. (refl, refl));
      })
  turn (walk.no_value is more) = inr (turn_over aim.no_value (NoValue entry ∷ []) is refl more)
  turn (walk.unknown is more) = inr (turn_over aim.unknown (Unknown entry ∷ []) is refl more)
  turn (walk.not_read name is holds more) =
      inr (turn_over (aim.file name) (NotRead entry ∷ []) is (Unreadable, holds, refl) more)
  turn (walk.too_deep name dir text is holds deep more) =
      inr (turn_over (aim.file name) (TooDeep entry ∷ []) is (Text dir text, holds, rw deep refl) more)

-- ---- one walk

abbrev last : List ℕ → Option FileError → List (List ℕ × Item)
last name None = []
last name (Some error) = (name, Stops (Line error)) ∷ []

no_entry : {contents : List ℕ → Content → Type 0} {known : Known} {depth : ℕ} {here : Bool}
    {place : FilePlace} {error : Option FileError} {items : List (List ℕ × Item)} {whole : Bool}
    → Walks contents known depth here place [] error items whole
    → IsCut items whole ⊎ (items ≡ last place.name.now error)
no_entry walk.cut = inl (refl, refl)
no_entry walk.ends = inr refl
no_entry walk.line = inr refl

-- all walks of these entries of the two files agree
abbrev AllAgree : (List ℕ → Content → Type 0) → Known → ℕ → Bool → FilePlace → FilePlace → Option FileError
    → List Entry → Type 0
AllAgree contents known n here p q error entries = (a b : List (List ℕ × Item)) (v w : Bool) → All IsRead entries
    → Walks contents known n here p entries error a v → Walks contents known n here q entries error b w
    → Agree a v b w

-- so they do in all files with the same name in the same directory
abbrev IsOne : (List ℕ → Content → Type 0) → Known → ℕ → Type 0
IsOne contents known n = (here : Bool) (p q : FilePlace) (error : Option FileError) → p.name.now ≡ q.name.now
    → p.real_dir.now ≡ q.real_dir.now → (entries : List Entry) → AllAgree contents known n here p q error entries

module _ (contents : List ℕ → Content → Type 0) (known : Known) (one : HasOneContent contents) (n : ℕ)
    (below : (m : ℕ) → n ≡ m + 1 → IsOne contents known m) (here : Bool) (p q : FilePlace) (error : Option FileError)
    (names : p.name.now ≡ q.name.now) (dirs : p.real_dir.now ≡ q.real_dir.now) where
  agree_on : (entry : Entry) (entries : List Entry) → AllAgree contents known n here p q error entries → IsRead entry
      → All IsRead entries
      → (a b : List (List ℕ × Item)) (v w : Bool) (to : Way)
      → GoesOn contents known n here p entry entries error a v to
      → GoesOn contents known n here q entry entries error b w to
      → Agree a v b w
  agree_on entry entries later is_read read a b v w (over all) (rest, e, walks) (left, f, also) =
      rw (e, f, names) (agree_after (stops q.name.now all) (later rest left v w read walks also))
  agree_on entry entries later is_read read a b v w (into less name dir text)
      (at, k, says, inner, end, within, rest, s, deep, at_name, at_dir, file, e, walks, more, cut)
      (to, l, tells, others, stop, between, left, t, so, to_name, to_dir, same, f, also, goes, ends) =
      let (inners, stops) = one_reading text inner others end stop file same in
      let flags = one_forbids known.includes entry is_read says tells in
      let inside = below less deep (here || l) at to stop (at_name ∙ sym to_name) (at_dir ∙ sym to_dir) others within between s t
      (entries_are_read same) (rw (inners, stops, flags) at walks) also in
      rw (e, f) (joins s t inside cut ends (λ x y. later rest left v w read (more x) (goes y)))

  agree_turns : (entry : Entry) (entries : List Entry) → AllAgree contents known n here p q error entries
      → (a b : List (List ℕ × Item)) (v w : Bool) → All IsRead (entry ∷ entries)
      → Turn contents known n here p entry entries error a v → Turn contents known n here q entry entries error b w
      → Agree a v b w
  agree_turns entry entries later a b v w read x y =
      let aims : Aims known q.name.now q.real_dir.now entry x.at = rw (names, dirs) at x.aims in
      let is_read = All-head IsRead entry entries read in
      let aim = one_aim known q.name.now q.real_dir.now entry x.at y.at is_read aims y.aims in
      let ways = one_way n here entry y.at x.to y.to one is_read (rw aim at x.leads) y.leads in
      rw (x.joined, y.joined, names) (agree_after ((q.name.now, Found entry) ∷ [])
      (agree_on entry entries later is_read (All-tail IsRead entry entries read) x.left y.left v w y.to (rw ways at x.goes_on)
      y.goes_on))

  is_one : (entries : List Entry) → AllAgree contents known n here p q error entries
  is_one [] a b v w read first second =
      unless_cut (no_entry first) (no_entry second)
      (λ is so. inl (itself (so ∙ ap (λ x. last x error) (sym names) ∙ sym is)))
  is_one (entry ∷ entries) a b v w read first second =
      unless_cut (turn first) (turn second) (agree_turns entry entries (is_one entries) a b v w read)

are_one : (contents : List ℕ → Content → Type 0) (known : Known) → HasOneContent contents → (n : ℕ)
    → IsOne contents known n
are_one contents known one zero = is_one contents known one zero (λ m e. absurd (omega arith))
are_one contents known one (suc n) = is_one contents known one (suc n)
    (λ m e. let same : n ≡ m = omega arith in rw same at (are_one contents known one n))

pub texts_agree : {contents : List ℕ → Content → Type 0} {known : Known} {place : FilePlace} {text : List ℕ}
    {a b : List (List ℕ × Item)} {v w : Bool} → HasOneContent contents
    → WalksText contents known place text a v
    → WalksText contents known place text b w → Agree a v b w
texts_agree {contents = contents} {known = known} {place = place} {text = text} one
    (entries, error, is, walks) (others, other, so, also) =
    let (same, errors) = one_reading text entries others error other is so in
    are_one contents known one 10 false place place other refl refl others _ _ _ _ (entries_are_read so)
    (rw (same, errors) at walks) also

pub whole_or_begins : {X : Type 0} {a b : List X} {w : Bool} → Agree a true b w
    → (more : List X) × (a ≡ b ++ more)
whole_or_begins {b = b} (inl is) = ([], sym (append-nil b ∙ whole_same is))
whole_or_begins (inr is) = (is.more, is.joined)

pub begins_either : {X : Type 0} {a b : List X} {v w : Bool} → Agree a v b w
    → (more : List X) × ((a ≡ b ++ more) ⊎ (b ≡ a ++ more))
begins_either (inl is) = (is.more, inr is.joined)
begins_either (inr is) = (is.more, inl is.joined)
