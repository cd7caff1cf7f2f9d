-- Lemmas for the sequences of colors: decimal numbers below 256, and the codes of a text that goes on.
use Rattle.std.proofs.Common.{◌≡◌, ◌≢◌, ℕ, ◌+◌, ◌-◌, ◌/◌, ◌%◌, ◌^◌, ◌<◌, ◌≤◌, Bool, true, false, cond, not}
use Rattle.std.proofs.Common.{List, [], ◌∷◌, ◌++◌, length, map, filter, take, drop, codes, decimal, bit_and}
use Rattle.std.proofs.Common.{◌*◌, refl, sym, ap, get_or, ◌∙◌, arith, ◌==◌, append_assoc, length-append}
use Rattle.std.proofs.lemmas.Bool.{le-ltb, lt-ltb}
use Rattle.std.proofs.lemmas.Fmt.{decimal_digit, decimal_step, length-decimal-le}
use Rattle.std.proofs.lemmas.List.{append-nil, map-append, take-append-drop, take_more}
use Rattle.std.proofs.lemmas.List.Elements.{filter-append}
use Rattle.std.specs.List.{join_with_byte}
use Rattle.config_color.specs.declared.escape.AttributeCode.{AttributeCode}
use Rattle.config_color.specs.declared.escape.TheConstants.{LONGEST_ESCAPE, LONGEST_PART}
use Rattle.config_color.specs.Escape.{attribute_codes, palette_codes, row_codes, sequence_of}
use Rattle.config_color.specs.Reading.Escape.{Continues, code_row, opened, size}

-- a number of two digits
pub two_digits : (n : ℕ) → 10 ≤ n → n < 100 → decimal n ≡ (48 + n / 10) ∷ (48 + n % 10) ∷ []
two_digits n least most =
    decimal_step n least (omega arith)
    ∙ ap (λ front. front ++ (48 + n % 10) ∷ []) (decimal_digit (n / 10) (omega arith))

-- a number of three digits
pub three_digits : (n : ℕ) → 100 ≤ n → n < 256
    → decimal n ≡ (48 + n / 100) ∷ (48 + n / 10 % 10) ∷ (48 + n % 10) ∷ []
three_digits n least most =
    decimal_step n (omega arith) (omega arith)
    ∙ ap (λ front. front ++ (48 + n % 10) ∷ []) (two_digits (n / 10) (omega arith) (omega arith))
    ∙ ap (λ d. (48 + d) ∷ (48 + n / 10 % 10) ∷ (48 + n % 10) ∷ []) (omega arith)

-- one more code, after a separator
join_more : (first : List ℕ) (more : List (List ℕ)) (code : List ℕ)
    → join_with_byte 59 (first ∷ more) ++ 59 ∷ code ≡ join_with_byte 59 ((first ∷ more) ++ code ∷ [])
join_more first [] code = refl
join_more first (second ∷ more) code =
    append_assoc first (59 ∷ join_with_byte 59 (second ∷ more)) (59 ∷ code)
    ∙ ap (λ rest. first ++ 59 ∷ rest) (join_more second more code)

-- a text that is not empty, after a separator and one more code
pub opened_more : (done : List (List ℕ)) (code text : List ℕ) → text ≡ opened done → text ≢ []
    → (text ++ 59 ∷ []) ++ code ≡ opened (done ++ code ∷ [])
opened_more [] code text e some = absurd (some e)
opened_more (first ∷ more) code text e some =
    append_assoc text (59 ∷ []) code ∙ ap (λ t. t ++ 59 ∷ code) e
    ∙ ap (λ rest. 27 ∷ 91 ∷ rest) (join_more first more code)

-- an empty text has no codes yet
pub opened_first : (done : List (List ℕ)) (code text : List ℕ) → text ≡ opened done → text ≡ []
    → 27 ∷ 91 ∷ code ≡ opened (done ++ code ∷ [])
opened_first [] code text e none = refl
opened_first (first ∷ more) code text e none = absurd (cc)

-- one step after another
pub continues_on : (cs ds : List (List ℕ)) (j k : ℕ) (a b c : List ℕ) → Continues cs j a b → Continues ds k b c
    → Continues (cs ++ ds) (j + k) a c
continues_on cs ds j k a b c one two =
    record {
      adds = λ done e. two.adds (done ++ cs) (one.adds done e) ∙ ap opened (append_assoc done cs ds);
      short = λ n some h. let m = one.short n some h in
          let l = two.short (n + j) (omega arith) m in
          omega (arith, l);
    }

-- a larger bound
pub continues_within : (cs : List (List ℕ)) (j k : ℕ) (a b : List ℕ) → Continues cs j a b → j ≤ k
    → Continues cs k a b
continues_within cs j k a b one h =
    record { adds = one.adds; short = λ n some l. let m = one.short n some l in omega (arith, m) }

-- nothing more
pub continues_still : (k : ℕ) (a : List ℕ) → Continues [] k a a
continues_still k a =
    record { adds = λ done e. e ∙ ap opened (sym (append-nil done)); short = λ n some l. omega (arith, l) }

-- the codes of rows have no more bytes than all codes of the rows
row_short : (x : Bool) (row : ℕ × List ℕ) (chosen rows : List (ℕ × List ℕ))
    → length (opened (map (λ r. r.1) chosen)) ≤ 1 + size rows
    → length (opened (map (λ r. r.1) (cond x (row ∷ chosen) chosen))) ≤ 1 + size (row ∷ rows)
row_short true row [] rows h = simp length-append (omega arith)
row_short true row (next ∷ chosen) rows h = simp length-append (omega (arith, h))
row_short false row chosen rows h = omega (arith, h)

pub opened_short : (bits : ℕ) (rows : List (ℕ × List ℕ)) → length (opened (row_codes bits rows)) ≤ 1 + size rows
opened_short bits [] = omega arith
opened_short bits (row ∷ rows) =
    row_short (not (bit_and bits row.0 == 0)) row (filter (λ r. not (bit_and bits r.0 == 0)) rows) rows
    (opened_short bits rows)

-- the codes of two lists of rows
pub rows_append : (bits : ℕ) (xs ys : List (ℕ × List ℕ))
    → row_codes bits (xs ++ ys) ≡ row_codes bits xs ++ row_codes bits ys
rows_append bits xs ys = rw (filter-append, map-append)

pub size_append : (xs ys : List (ℕ × List ℕ)) → size (xs ++ ys) ≡ size xs + size ys
size_append [] ys = omega arith
size_append (x ∷ xs) ys = let h = size_append xs ys in omega (arith, h)

-- the longest sequence: the first byte, the whole table, two names and the last byte
pub size_all : 1 + size attribute_codes + 2 * LONGEST_PART + 1 ≡ LONGEST_ESCAPE
unfolding attribute_codes
size_all = refl

-- the sequence is the opened one and its last byte, unless there are no codes
pub sequence_closed : (done : List (List ℕ)) (text : List ℕ) → text ≡ opened done → text ≢ []
    → text ++ codes "m" ≡ sequence_of done
sequence_closed [] text e some = absurd (some e)
sequence_closed (first ∷ more) text e some = ap (λ t. t ++ codes "m") e

pub sequence_none : (done : List (List ℕ)) (text : List ℕ) → text ≡ opened done → text ≡ []
    → text ≡ sequence_of done
sequence_none [] text e none = none
sequence_none (first ∷ more) text e none = absurd (cc)

-- the bound of one more number, by how many digits it has
digits : (k n : ℕ) {a b : List ℕ} → 0 < k → n < 10 ^ k → n < 256
    → Continues (decimal n ∷ []) (1 + length (decimal n)) a b
    → Continues (decimal n ∷ []) (1 + k) a b
digits k n some small byte one = let l = length-decimal-le k n some small (omega arith) in
    continues_within (decimal n ∷ []) _ (1 + k) _ _ one (omega (arith, l))

pub of_two : (n : ℕ) {a b : List ℕ} → n < 100 → Continues (decimal n ∷ []) (1 + length (decimal n)) a b
    → Continues (decimal n ∷ []) 3 a b
of_two n small one = digits 2 n (omega arith) (omega arith) (omega arith) one

pub of_three : (n : ℕ) {a b : List ℕ} → n < 256 → Continues (decimal n ∷ []) (1 + length (decimal n)) a b
    → Continues (decimal n ∷ []) 4 a b
of_three n small one = digits 3 n (omega arith) (omega arith) small one

-- there is room for one more number
pub room_after : {cs : List (List ℕ)} {most : ℕ} {a b : List ℕ} → Continues cs most a b → most ≤ 13
    → length a + LONGEST_PART < LONGEST_ESCAPE → length b + 5 ≤ LONGEST_ESCAPE
room_after one few room =
    let short = one.short (LONGEST_ESCAPE - LONGEST_PART - 1) (omega arith) (omega arith) in omega arith

-- the codes of a number of the palette
pub palette_basic : (black number : ℕ) → number < 8 → palette_codes black number ≡ (black + number) ∷ []
palette_basic black number small = rw (lt-ltb number 8 small) refl

pub palette_bright : (black number : ℕ) → 8 ≤ number → number < 16
    → palette_codes black number ≡ (black + 60 + (number - 8)) ∷ []
palette_bright black number least small = rw (le-ltb number 8 least) (rw (lt-ltb number 16 small) refl)

pub palette_other : (black number : ℕ) → 16 ≤ number
    → palette_codes black number ≡ (black + 8) ∷ 5 ∷ number ∷ []
palette_other black number least =
    rw (le-ltb number 8 (omega (arith, least))) (rw (le-ltb number 16 least) refl)

-- the code of a ground and a second code, before the numbers of a color
pub two_codes : (black second : ℕ) {a b c : List ℕ} → black ≤ 40 → second < 10
    → Continues (decimal (black + 8) ∷ []) (1 + length (decimal (black + 8))) a b
    → Continues (decimal second ∷ []) (1 + length (decimal second)) b c
    → Continues (decimal (black + 8) ∷ decimal second ∷ []) 5 a c
two_codes black second low small one two =
    continues_on (decimal (black + 8) ∷ []) (decimal second ∷ []) 3 2 _ _ _
    (of_two (black + 8) (omega arith) one) (digits 1 second (omega arith) (omega arith) (omega arith) two)

-- one more number of a byte
pub one_more : {cs : List (List ℕ)} (most n : ℕ) {a b c : List ℕ} → n < 256 → Continues cs most a b
    → Continues (decimal n ∷ []) (1 + length (decimal n)) b c → Continues (cs ++ decimal n ∷ []) (most + 4) a c
one_more most n small one two = continues_on _ (decimal n ∷ []) most 4 _ _ _ one (of_three n small two)

-- a part of the rows is no longer than all rows
size_part : (rows : List AttributeCode) (i : ℕ) (row : AttributeCode) → i < length rows
    → size (map code_row (take i rows)) + 1 + length (get_or rows i row).code.now ≤ size (map code_row rows)
size_part rows i row below =
    let all = λ (rows : List AttributeCode). size (map code_row rows) in
    let more : all (take (i + 1) rows) ≡ all (take i rows) + (1 + length (get_or rows i row).code.now + 0) =
    rw (take_more rows i row below, map-append, size_append) in
    let whole : all rows ≡ all (take (i + 1) rows) + all (drop (i + 1) rows) =
    rw (← size_append, ← map-append, take-append-drop) in
    omega (arith, more, whole)

-- the codes of one more row, after those of the rows before it
pub rows_more : (bits i : ℕ) (rows : List AttributeCode) (row : AttributeCode) (a b c : List ℕ) → i < length rows
    → Continues (row_codes bits (map code_row (take i rows))) (size (map code_row (take i rows))) a b
    → Continues (row_codes bits (code_row (get_or rows i row) ∷ [])) (size (code_row (get_or rows i row) ∷ [])) b c
    → Continues (row_codes bits (map code_row (take (i + 1) rows))) (size (map code_row (take (i + 1) rows))) a c
rows_more bits i rows row a b c below before one =
    let front = map code_row (take i rows) in
    let back = code_row (get_or rows i row) ∷ [] in
    let both = continues_on _ _ (size front) (size back) a b c before one in
    rw (take_more rows i row below, map-append, rows_append bits front back, size_append front back) both

-- there is room for the code of one more row
pub row_room : (rows : List AttributeCode) (i : ℕ) (row : AttributeCode) (start now : ℕ) → i < length rows
    → start + 2 + size (map code_row rows) ≤ LONGEST_ESCAPE
    → now ≤ start + 1 + size (map code_row (take i rows))
    → now + 2 + length (get_or rows i row).code.now ≤ LONGEST_ESCAPE
row_room rows i row start now below room short = let part = size_part rows i row below in
    omega (arith, room, short, part)
