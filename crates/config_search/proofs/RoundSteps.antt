-- Texts that are read one after the other.
use Rattle.std.proofs.Common.{◌≡◌, ◌≤◌, ◌++◌, ◌∷◌, ◌∙◌, ◌+◌, ◌||◌, [], ℕ, List, Option, None, Some, Result}
use Rattle.std.proofs.Common.{Ok, Err, inl, inr, ap, drop, length, map, refl, subst, sym, take}
use Rattle.std.specs.Global.{Box}
use Rattle.std.specs.List.{list_any, slice_get}
use Rattle.std.proofs.lemmas.List.{append_assoc, append-nil, map-append, take_all, take-append-drop}
use Rattle.std.proofs.lemmas.Option.{same_Some, slice_get_cases, slice_get_within}
use Rattle.config_file.specs.File.{Entry}
use Rattle.config_file.specs.declared.walk.Known.{Known}
use Rattle.config_file.proofs.Picked.{take_next}
use Rattle.config_search.specs.System.{System}
use Rattle.config_search.specs.Reads.{At, End, HoldsFor, InFile, ReadEntry, ReadsText, ReadsTexts, Stop}
use Rattle.config_search.specs.Reads.{Text, WalksTo, Whole, has_include, none, one_more, some_include}
use Rattle.config_search.specs.Reads.{stopped, with_scope}
use Rattle.config_search.specs.Reading.{EndsTexts, HaltsIn, HasCome, InReader, InRound, IsAtDir, IsReaderOf}
use Rattle.config_search.specs.Reading.{RoundsTo, text_of}
use Rattle.config_search.specs.declared.fact.Pause.TheVariants.{Ask, Memory}
use Rattle.config_search.specs.declared.halt.Halt.{Halt}
use Rattle.config_search.specs.declared.halt.Halt.TheVariants.{Pauses, Stops, Fails}
use Rattle.config_search.specs.declared.texts.Texts.{Texts}
use Rattle.config_search.specs.declared.reader.Reader.{Reader}
use Rattle.config_search.specs.declared.reader.Source.{Source}
use Rattle.config_search.specs.declared.rounds.Round.{Round}

none_some : {A : Type 0} {x : A} → None ≡ Some x → ⊥
none_some same = cc

past_by : {X : Type 0} (xs : List X) (i : ℕ) → slice_get xs i ≡ None → length xs ≤ i
past_by xs i missing = elim (slice_get_cases xs i).1 [
  | inl (x, within, same, other) ↦ absurd (none_some (sym missing ∙ same))
  | inr (past, also) ↦ past
]

-- some of these texts include files
pub some_of : (texts : List Source) → list_any (λ source. has_include source.text.now) texts ≡ some_include
    (map text_of texts)
some_of [] = refl
some_of (source ∷ rest) = ap (λ b. has_include source.text.now || b) (some_of rest)

module _ (system : System) (start : List ℕ) (known : Known) where
  pub round_begins : (texts : List Source) (round : Round) → round.done ≡ 0 → round.reader ≡ None
      → InRound system start known texts round []
  round_begins texts round done reader = record {
    before = [];
    are_read = rw done none;
    more = [];
    in_reader = rw reader refl;
    sum = refl;
  }

  -- where Git stops in a text, those after it are not read
  stopped_before : (front rest : List Text) (read : List ReadEntry) (stop : Stop)
      → ReadsTexts system start known front read (At stop) → ReadsTexts system start known (front ++ rest)
      read (At stop)
  stopped_before front [] read stop is = rw (append-nil front) is
  stopped_before front (text ∷ rest) read stop is =
      rw (sym (append_assoc front (text ∷ []) rest)) (stopped_before (front ++ text ∷ []) rest read stop
      (stopped text is))

  pub stopped_at : (texts : List Source) (i : ℕ) (read : List ReadEntry) (stop : Stop)
      → ReadsTexts system start known (map text_of (take i texts)) read (At stop)
      → ReadsTexts system start known (map text_of texts) read (At stop)
  stopped_at texts i read stop is =
      subst (λ (all : List Text). ReadsTexts system start known all read (At stop))
      (sym (map-append text_of (take i texts) (drop i texts)) ∙ ap (map text_of) (take-append-drop i texts))
      (stopped_before (map text_of (take i texts)) (map text_of (drop i texts)) read stop is)

  -- what is read of the text that comes next
  abbrev pub Begun : Source → Box Reader → List ReadEntry → Type 0
  Begun source made more = (made.value.source ≡ source) × ((found : List (List ℕ × Entry))
      × HasCome (HoldsFor system start source.is_file) known made.value found
      × (more ≡ map (with_scope source.scope) found))

  pub begun : (texts : List Source) (done : ℕ) (old : Option (Box Reader)) (more : List ReadEntry)
      (source : Source)
      (made : Box Reader) → InReader system start known texts done old more → slice_get texts done ≡ Some
      source
      → IsReaderOf old source made → Begun source made more
  begun texts done None more source made nothing is (same, new) = (
    same,
    ([], new system start known, nothing),
  )
  begun texts done (Some reader) more source made (at, (found, come, sum)) is same =
      let e : reader.value.source ≡ source = same_Some _ _ (sym at ∙ is) in rw same (
        e,
        (
          found,
          subst (λ (s : Source). HasCome (HoldsFor system start s.is_file) known reader.value found) e come,
          sum ∙ ap (λ (s : Source). map (with_scope s.scope) found) e,
        ),
      )

  -- no text is begun behind the last one
  ends_in : (texts : List Source) (done : ℕ) (reader : Option (Box Reader))
      (before more read : List ReadEntry)
      → ReadsTexts system start known (map text_of (take done texts)) before Whole
      → InReader system start known texts done reader more → read ≡ before ++ more → slice_get texts done
      ≡ None
      → ReadsTexts system start known (map text_of texts) read Whole
  ends_in texts done None before more read are nothing sum past =
      rw (sum, nothing, append-nil before, sym (take_all done texts (past_by texts done past))) are
  ends_in texts done (Some reader) before more read are (at, rest) sum past = absurd
      (none_some (sym past ∙ at))

  -- what is read of a text, in which more is found
  ends_by : (s source : Source) → s ≡ source → (after : Reader) (more : List ReadEntry)
      (earlier found : List (List ℕ × Entry)) (end : End) → more ≡ map (with_scope source.scope) earlier
      → IsAtDir system start source → after.source ≡ s
      → WalksTo (HoldsFor system start s.is_file) known after.source.place after.source.text.now
      (earlier ++ found) end
      → ReadsText system start known (text_of source) (more ++ map (with_scope s.scope) found) end
  ends_by s source e after more earlier found end sum dir same walks = (
    source.place,
    earlier ++ found,
    refl,
    dir,
    rw (e, sum) (sym (map-append (with_scope source.scope) earlier found)),
    rw (same, e) at walks,
  )

  back_by : (s source : Source) → s ≡ source → (reader : Reader) (earlier : List (List ℕ × Entry))
      → HasCome (HoldsFor system start source.is_file) known reader earlier
      → HasCome (HoldsFor system start s.is_file) known reader earlier
  back_by s source e reader earlier come = rw e come

  waits_by : (s source : Source) → s ≡ source → (reader after : Reader) (more : List ReadEntry)
      (earlier found : List (List ℕ × Entry))
      → HasCome (HoldsFor system start source.is_file) known reader earlier → more ≡ map
      (with_scope source.scope) earlier
      → after.source ≡ s
      → ((all : List (List ℕ × Entry)) → HasCome (HoldsFor system start s.is_file) known reader all
      → HasCome (HoldsFor system start s.is_file) known after (all ++ found))
      → (all : List (List ℕ × Entry)) × HasCome (HoldsFor system start after.source.is_file) known after all
      × (more ++ map (with_scope s.scope) found ≡ map (with_scope after.source.scope) all)
  waits_by s source e reader after more earlier found come sum same comes = (
    earlier ++ found,
    subst (λ (t : Source). HasCome (HoldsFor system start t.is_file) known after (earlier ++ found))
        (sym same)
        (comes earlier (rw e come)),
    rw (same, e, sum) (sym (map-append (with_scope source.scope) earlier found)),
  )

  -- one more text
  next_text : (texts : List Source) (done : ℕ) (source : Source) (before more : List ReadEntry) (end : End)
      → slice_get texts done ≡ Some source → ReadsTexts system start known (map text_of (take done texts))
      before Whole
      → ReadsText system start known (text_of source) more end
      → ReadsTexts system start known (map text_of (take (done + 1) texts)) (before ++ more) end
  next_text texts done source before more end next are text = rw (
    take_next texts done source next (slice_get_within texts done source next),
    map-append text_of (take done texts) (source ∷ []),
  )
      (one_more (text_of source) are text)

  module _ (texts : List Source) (round : Round) (read : List ReadEntry) (source : Source) (made : Box Reader)
      (is : InRound system start known texts round read) (next : slice_get texts round.done ≡ Some source)
      (of : IsReaderOf round.reader source made) (found : List (List ℕ × Entry)) where
    -- the text is read
    pub text_whole : IsAtDir system start source → (after : Reader) (new : Round) → after.source
        ≡ made.value.source
        → ((earlier : List (List ℕ × Entry)) → HasCome (HoldsFor system start made.value.source.is_file)
        known made.value earlier
        → WalksTo (HoldsFor system start made.value.source.is_file) known after.source.place
        after.source.text.now
        (earlier ++ found) Whole)
        → new.done ≡ round.done + 1 → new.reader ≡ None
        → InRound system start known texts new (read ++ map (with_scope made.value.source.scope) found)
    text_whole dir after new same walks done reader =
        let (e, (earlier, come, sum)) = begun texts round.done round.reader is.more source made
        is.in_reader next of in
        let text = ends_by made.value.source source e after is.more earlier found Whole sum dir same
        (walks earlier (back_by made.value.source source e made.value earlier come)) in record {
          before = is.before ++ (is.more ++ map (with_scope made.value.source.scope) found);
          are_read = rw done (next_text texts round.done source is.before _ Whole next is.are_read text);
          more = [];
          in_reader = rw reader refl;
          sum = ap (λ (all : List ReadEntry). all ++ map (with_scope made.value.source.scope) found) is.sum
              ∙ append_assoc is.before is.more (map (with_scope made.value.source.scope) found)
              ∙ sym (append-nil (is.before ++ (is.more ++ map (with_scope made.value.source.scope) found)));
        }

    -- the reader halts: at an entry that waits, or where Git stops
    pub text_halts : (all : Texts) → all.list.items ≡ texts → (opened : End) → IsAtDir system start source
        → (after : Box Reader) (new : Round) (halt : Halt) → after.value.source ≡ made.value.source
        → ((earlier : List (List ℕ × Entry)) → HasCome (HoldsFor system start made.value.source.is_file)
        known made.value earlier
        → HaltsIn (HoldsFor system start made.value.source.is_file) known after.value (earlier ++ found) halt)
        → new.done ≡ round.done → new.reader ≡ Some after
        → RoundsTo system start known all opened new (read ++ map (with_scope made.value.source.scope)
        found) (Err halt)
    text_halts all are opened dir after new (Pauses (Ask question)) same comes done reader =
        let (e, (earlier, come, sum)) = begun texts round.done round.reader is.more source made
        is.in_reader next of in
        rw are (record {
          before = is.before;
          are_read = rw done is.are_read;
          more = is.more ++ map (with_scope made.value.source.scope) found;
          in_reader = rw (done, reader) (
            next ∙ ap Some (sym (same ∙ e)),
            waits_by made.value.source source e made.value after.value is.more earlier found come sum same
                comes,
          );
          sum = ap (λ (some : List ReadEntry). some ++ map (with_scope made.value.source.scope) found) is.sum
              ∙ append_assoc is.before is.more (map (with_scope made.value.source.scope) found);
        })
    text_halts all are opened dir after new (Pauses (Memory error)) same comes done reader = tt
    text_halts all are opened dir after new (Fails error) same comes done reader = tt
    text_halts all are opened dir after new (Stops told) same comes done reader =
        let (e, (earlier, come, sum)) = begun texts round.done round.reader is.more source made
        is.in_reader next of in
        let (file, stop, walks, tells) = comes earlier (back_by made.value.source source e made.value
        earlier come) in
        let text = ends_by made.value.source source e after.value is.more earlier found
        (At (InFile file stop)) sum dir same walks in
        let some = next_text texts round.done source is.before _ (At (InFile file stop)) next is.are_read
        text in (
          InFile file stop,
          (
            At (InFile file stop),
            rw (are, is.sum, append_assoc is.before is.more (map (with_scope made.value.source.scope) found))
                (stopped_at texts (round.done + 1) _ (InFile file stop) some),
            refl,
          ),
          tells,
        )

  -- a round has come behind all texts
  pub round_ends : (all : Texts) (opened : End) (round : Round) (read : List ReadEntry)
      (result : Result (Unit {0}) Halt)
      → InRound system start known all.list.items round read → slice_get all.list.items round.done ≡ None
      → EndsTexts opened result → RoundsTo system start known all opened round read result
  round_ends all opened round read (Ok done) is past ends = (
    Whole,
    ends_in all.list.items round.done round.reader is.before is.more read is.are_read is.in_reader is.sum
        past,
    sym ends,
  )
  round_ends all opened round read (Err (Stops told)) is past (stop, at, tells) = (
    stop,
    (
      Whole,
      ends_in all.list.items round.done round.reader is.before is.more read is.are_read is.in_reader is.sum
          past,
      sym at,
    ),
    tells,
  )
  round_ends all opened round read (Err (Pauses (Ask question))) is past ends = absurd ends
  round_ends all opened round read (Err (Pauses (Memory error))) is past ends = tt
  round_ends all opened round read (Err (Fails error)) is past ends = tt
