-- The frames of a walk in C, one more at a time.
use Rattle.std.proofs.Common.{arith, ◌≡◌, ◌<◌, ◌≤◌, ◌+◌, ◌++◌, ℕ, zero, suc, List, [], ◌∷◌, Option, None, Some}
use Rattle.std.proofs.Common.{length, take, drop, sym, ap, subst, ◌∙◌, slice_index_or, slice_set}
use Rattle.std.specs.List.{AllZip}
use Rattle.std.proofs.lemmas.List.{take_more, take_more_set, length-take-le}
use Rattle.std.proofs.Math.Seq.{take-append-add, take-append_seam}
use Rattle.std.proofs.lemmas.Slice.Zip.{AllZip-long, all_zipped_more}
use Rattle.config_file.specs.declared.section.Section.{Section}
use Rattle.config_file.specs.declared.section.Subsection.{Subsection}
use Rattle.config_file.specs.declared.walk.Frame.{Frame}
use Rattle.config_file.specs.declared.walk.Known.{Known}
use Rattle.gix_config_value_c.specs.declared.walk.GcvFrame.{GcvFrame}
use Rattle.gix_config_value_c.specs.declared.walk.GcvStep.{GcvStep}
use Rattle.gix_config_value_c.specs.declared.walk.Texts.{Texts}
use Rattle.gix_config_value_c.specs.Numbers.{flag_number}
use Rattle.gix_config_value_c.specs.Plain.{Tells, TellsEntry}
use Rattle.gix_config_value_c.specs.Plain.Tells.{one_more as told_more}
use Rattle.gix_config_value_c.specs.Walks.{HoldsFrame, HoldsSection}
use Rattle.gix_config_value_c.specs.Walks.HoldsSection.{plain, within}

-- each frame in C holds one of the walk
pub held_at : (frames : List GcvFrame) (old : List Frame) (i : ℕ) (d : GcvFrame) → AllZip HoldsFrame frames old
    → i < length frames → (f : Frame) × HoldsFrame (slice_index_or frames i d) f
held_at [] old i d all less = absurd (omega (arith, less))
held_at (c ∷ cs) [] i d all less = absurd all
held_at (c ∷ cs) (f ∷ fs) zero d all less = (f, all.0)
held_at (c ∷ cs) (f ∷ fs) (suc i) d all less = held_at cs fs i d all.1 (omega (arith, less))

-- one more frame is taken from the array
pub one_more : (frames : List GcvFrame) (old new : List Frame) (i : ℕ) (d : GcvFrame) (f : Frame)
    → i < length frames → AllZip HoldsFrame (take i frames) old → HoldsFrame (slice_index_or frames i d) f
    → new ≡ old ++ f ∷ [] → AllZip HoldsFrame (take (i + 1) frames) new
one_more frames old new i d f less all has e =
    rw (e, take_more frames i d less) (all_zipped_more HoldsFrame (take i frames) old (slice_index_or frames i d) f all has)

-- the array has more frames than a walk
pub too_many : (frames : List GcvFrame) (old walk : List Frame) (i : ℕ) → i < length frames
    → AllZip HoldsFrame (take i frames) walk → length walk ≡ 11 → AllZip HoldsFrame frames old → ¬ (length old ≤ 11)
too_many frames old walk i less part full all fits =
    let whole = AllZip-long HoldsFrame frames old all in
    let some = AllZip-long HoldsFrame (take i frames) walk part in
    let long : length (take i frames) ≡ i = length-take-le i frames (omega (arith, less)) in
    omega (arith, whole, some, long, full, fits, less)

-- one more frame is put into the array
pub one_put : (frames : List GcvFrame) (walk : List Frame) (i : ℕ) (c : GcvFrame) (f : Frame) → i < length frames
    → i < length walk → AllZip HoldsFrame (take i frames) (take i walk) → f ≡ slice_index_or walk i f → HoldsFrame c f
    → AllZip HoldsFrame (take (i + 1) (slice_set frames i c)) (take (i + 1) walk)
one_put frames walk i c f less inside all is has =
    rw (take_more walk i f inside, take_more_set frames i c less)
    (all_zipped_more HoldsFrame (take i frames) (take i walk) c (slice_index_or walk i f) all (rw is at has))

-- the frame holds this section, which has no subsection
pub plain_of : (frame : GcvFrame) (s : Section) (section : Option Section) → section ≡ Some s → s.subsection ≡ None
    → frame.section ≡ s.name → frame.parts ≡ 1 → HoldsSection frame section
plain_of frame s section is alone name parts =
    let named = sym name in
    let whole : s ≡ record { name = frame.section; subsection = None } = λ i. record { name = named i; subsection = alone i } in
    rw (is, whole) (plain parts)

-- the frame holds this section, which has this subsection
pub within_of : (frame : GcvFrame) (s : Section) (sub : Subsection) (section : Option Section) → section ≡ Some s
    → s.subsection ≡ Some sub → frame.section ≡ s.name → frame.subsection ≡ sub.raw → frame.parts ≡ 2
    → HoldsSection frame section
within_of frame s sub section is has name raw parts =
    let named = sym name in
    let inner : s.subsection ≡ Some (record { raw = frame.subsection }) = has ∙ ap (λ t. Some (record { raw = t })) (sym raw) in
    let whole : s ≡ record { name = frame.section; subsection = Some (record { raw = frame.subsection }) } =
    λ i. record { name = named i; subsection = inner i } in
    rw (is, whole) (within parts)

-- the frame holds one of a walk, whose lines can be counted
pub holds_frame : {frame : GcvFrame} {held : Frame} → HoldsSection frame held.entries.section
    → frame.line ≡ held.entries.line → frame.rest ≡ held.entries.rest → held.place.name ≡ frame.name
    → held.place.real_dir ≡ frame.real_dir → frame.forbids_urls ≡ flag_number held.forbids_urls
    → HoldsFrame frame held
holds_frame {held = held} section line rest name dir forbids = record {
  name = name;
  real_dir = dir;
  section = section;
  line = sym line;
  rest = sym rest;
  fits = rw (line, rest) held.entries.line_fits;
  forbids = forbids;
}

-- the texts of a step are at the front of the buffer
pub put_text : (copied text buffer : List ℕ) (size : ℕ) → copied ≡ text → size ≡ length text
    → copied ++ drop size buffer ≡ text ++ drop (length text) buffer
put_text copied text buffer size same long = cc

-- the texts of an entry are behind the first bytes of the buffer
pub put_behind : (buffer copied text rest : List ℕ) (size : ℕ) → copied ≡ text → size ≤ length buffer
    → take (size + length text) (take size buffer ++ (copied ++ rest)) ≡ take size buffer ++ text
put_behind buffer copied text rest size same fits =
    rw same (subst (λ n. take (n + length text) (take size buffer ++ (text ++ rest)) ≡ take size buffer ++ text)
    (length-take-le size buffer fits) (take-append-add (take size buffer) (text ++ rest) (length text)
    ∙ ap (λ l. take size buffer ++ l) (take-append_seam text rest)))

-- the size that is told of an entry is that of its texts
pub told_size : {known : Known} {frame new : GcvFrame} {texts : Texts} {step : GcvStep}
    → TellsEntry known frame texts step new → step.size ≡ length texts.bytes.items
told_size tells = ap (λ step. step.size) tells.is_step

-- one more entry is told
pub tells_more : (known : Known) (frame mid new : GcvFrame) (steps : List GcvStep) (buffer buffer' : List ℕ)
    (told size : ℕ) (step : GcvStep) (texts : Texts) → told < length steps
    → Tells known frame (take told steps) (take size buffer) mid → TellsEntry known mid texts step new
    → take (size + length texts.bytes.items) buffer' ≡ take size buffer ++ texts.bytes.items
    → Tells known frame (take (told + 1) (slice_set steps told step)) (take (size + step.size) buffer') new
tells_more known frame mid new steps buffer buffer' told size step texts less so_far tells put =
    subst (λ n. Tells known frame (take (told + 1) (slice_set steps told step)) (take (size + n) buffer') new)
    (sym (told_size tells))
    (rw (take_more_set steps told step less, put) (told_more texts step so_far tells))
