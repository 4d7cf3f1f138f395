-- Parts of a list, runs of stores (`sets` of lib.Seq), and loops that store one entry after another.
use mathlib.Core.Path.{◌≡◌, refl, sym, ap, ◌∙◌}
use mathlib.Core.List.{List, [], ◌∷◌, ◌++◌, append_assoc, map, flat_map}
use mathlib.Core.Logic.{◌⊎◌, ⊎_elim}
use Prim.Native.Nat.{ℕ, zero, suc, ◌+◌, ◌*◌, ◌-◌, ◌≤◌, ◌<◌}
use native.Mathlib.Nat.{add-suc, suc-add, zero-add, add-zero, suc-mul, zero-mul, add-sub_cancel_left}
use native.Mathlib.Numerals.{add-one}
use native.Mathlib.Omega.{arith}
use lib.ListN.{length, length-append, take, drop, set, get_or, length-drop}
use lib.Seq.{take-suc, get_or-take, get_or-drop, get_or-set_other, drop-append-add, drop-drop, sets, sets-eq, drop-set-lt, take-set-le, take_at, drop_at, length-take-le}
use Rattle.laws.specs.Lists.{range, part}
use Rattle.laws.proofs.Lists.{length_of_range, range_snoc, map_append}

-- ---- parts

-- a part that is one entry longer
pub part_snoc : (l : List ℕ) (p w : ℕ) → p + w < length l → part l p (suc w) ≡ part l p w ++ (get_or l (p + w) 0 ∷ [])
part_snoc l p w h = rw (take-suc (drop p l) w 0 (simp length-drop (omega arith)), get_or-drop p l w 0)

pub length_part : (l : List ℕ) (p w : ℕ) → p + w ≤ length l → length (part l p w) ≡ w
length_part l p w h = length-take-le w (drop p l) (simp length-drop (omega arith))

pub entry_of_part : (l : List ℕ) (p w j : ℕ) → j < w → get_or (part l p w) j 0 ≡ get_or l (p + j) 0
entry_of_part l p w j h = get_or-take w (drop p l) j 0 h ∙ get_or-drop p l j 0

-- a part lent as s[start .. start + w] has w entries
pub part_long : (s : List ℕ) (start w : ℕ) → start + w ≤ length s → length (part s start (start + w - start)) ≡ w
part_long s start w h = rw (add-sub_cancel_left start w) (length_part s start w h)

-- a part is the end of a front of the list
part_of_front : (w p : ℕ) (l : List ℕ) → take w (drop p l) ≡ drop p (take (p + w) l)
part_of_front w zero l = ap (λ (k : ℕ). take k l) (sym (zero-add w))
part_of_front zero (suc p) [] = rw add-zero
part_of_front (suc w) (suc p) [] = rw suc-add
part_of_front w (suc p) (x ∷ l) = rw suc-add (part_of_front w p l)

-- rows of k entries, one after the other: how many entries they have
pub length_of_rows : (f : ℕ → List ℕ) (k i n : ℕ) → ((j : ℕ) → i ≤ j → j < i + n → length (f j) ≡ k) → length (flat_map f (range i n)) ≡ n * k
unfolding flat_map range
length_of_rows f k i zero h = sym (zero-mul k)
length_of_rows f k i (suc n) h =
    rw (length-append, suc-mul)
    (omega (arith, h i (omega arith) (omega arith), length_of_rows f k (suc i) n (λ j p q. h j (omega arith) (omega arith))))

-- and the part at b × k is row b
pub part_of_rows : (f : ℕ → List ℕ) (k i n b : ℕ) (rest : List ℕ) → ((j : ℕ) → i ≤ j → j < i + n → length (f j) ≡ k) → b < n
    → part (flat_map f (range i n) ++ rest) (b * k) k ≡ f (i + b)
unfolding flat_map range
part_of_rows f k i zero b rest h l = absurd (omega arith)
part_of_rows f k i (suc n) zero rest h l =
    rw (zero-mul k, append_assoc (f i) (flat_map f (range (suc i) n)) rest, add-zero i) (take_at (f i) _ k (h i (omega arith) (omega arith)))
part_of_rows f k i (suc n) (suc b) rest h l =
    let e : suc b * k ≡ length (f i) + b * k = suc-mul b k ∙ omega (arith, h i (omega arith) (omega arith)) in
    let s : i + suc b ≡ suc i + b = omega arith in
    rw (append_assoc (f i) (flat_map f (range (suc i) n)) rest, e, drop-append-add (f i) (flat_map f (range (suc i) n) ++ rest) (b * k), s)
    (part_of_rows f k (suc i) n b rest (λ j p q. h j (omega arith) (omega arith)) (omega arith))

-- ---- runs of stores

pub sets_append : (l : List ℕ) (i : ℕ) (xs ys : List ℕ) → sets l i (xs ++ ys) ≡ sets (sets l i xs) (i + length xs) ys
sets_append l i [] ys = ap (λ (k : ℕ). sets l k ys) (sym (add-zero i))
sets_append l i (a ∷ xs) ys =
    sets_append (set l i a) (suc i) xs ys
    ∙ ap (λ (k : ℕ). sets (sets (set l i a) (suc i) xs) k ys) (suc-add i (length xs) ∙ sym (add-suc i (length xs)))

-- a run from index 0 on is written in front of the rest
pub sets_front : (l xs : List ℕ) → length xs ≤ length l → sets l 0 xs ≡ xs ++ drop (length xs) l
sets_front l xs h = sets-eq xs l 0 (omega arith) ∙ rw (zero-add (length xs))

-- and is the front of what comes of it
pub front_stored : (l xs : List ℕ) (n : ℕ) → length xs ≡ n → n ≤ length l → take n (sets l 0 xs) ≡ xs
front_stored l xs n e h = rw (sets_front l xs (omega arith)) (take_at xs (drop (length xs) l) n e)

pub drop_sets : (n : ℕ) (l : List ℕ) (i : ℕ) (xs : List ℕ) → i + length xs ≤ n → drop n (sets l i xs) ≡ drop n l
drop_sets n l i [] h = refl
drop_sets n l i (a ∷ xs) h = drop_sets n (set l i a) (suc i) xs (omega arith) ∙ drop-set-lt n l i a (omega arith)

pub take_sets : (n : ℕ) (l : List ℕ) (i : ℕ) (xs : List ℕ) → n ≤ i → take n (sets l i xs) ≡ take n l
take_sets n l i [] h = refl
take_sets n l i (a ∷ xs) h = take_sets n (set l i a) (suc i) xs (omega arith) ∙ take-set-le n l i a h

-- an entry after a run
pub entry_after : (l : List ℕ) (i : ℕ) (xs : List ℕ) (j : ℕ) → i + length xs ≤ j → get_or (sets l i xs) j 0 ≡ get_or l j 0
entry_after l i [] j h = refl
entry_after l i (a ∷ xs) j h = entry_after (set l i a) (suc i) xs j (omega arith) ∙ get_or-set_other l i j a 0 (λ e. omega arith)

-- a part after a run, before it, and the run itself
pub part_after : (l : List ℕ) (i : ℕ) (xs : List ℕ) (p w : ℕ) → i + length xs ≤ p → part (sets l i xs) p w ≡ part l p w
part_after l i xs p w h = ap (take w) (drop_sets p l i xs h)

pub part_before : (l : List ℕ) (i : ℕ) (xs : List ℕ) (p w : ℕ) → p + w ≤ i → part (sets l i xs) p w ≡ part l p w
part_before l i xs p w h =
    part_of_front w p (sets l i xs) ∙ ap (drop p) (take_sets (p + w) l i xs h) ∙ sym (part_of_front w p l)

pub part_outside : (l : List ℕ) (i : ℕ) (xs : List ℕ) (p w : ℕ) → (p + w ≤ i) ⊎ (i + length xs ≤ p) → part (sets l i xs) p w ≡ part l p w
part_outside l i xs p w h = ⊎_elim (part_before l i xs p w) (part_after l i xs p w) h

pub part_same : (l : List ℕ) (i : ℕ) (xs : List ℕ) (w : ℕ) → length xs ≡ w → i + w ≤ length l → part (sets l i xs) i w ≡ xs
part_same l i xs w e h =
    ap (λ (s : List ℕ). part s i w) (sets-eq xs l i (omega arith) ∙ append_assoc (take i l) xs (drop (i + length xs) l))
    ∙ ap (take w) (drop_at (take i l) (xs ++ drop (i + length xs) l) i (length-take-le i l (omega arith)))
    ∙ take_at xs (drop (i + length xs) l) w e

-- a part that was lent comes back as a run of stores
pub sets_part : (l : List ℕ) (i : ℕ) (xs : List ℕ) (k : ℕ) → length xs ≡ k → i + k ≤ length l
    → take i l ++ (xs ++ drop k (drop i l)) ≡ sets l i xs
sets_part l i xs k e h =
    rw (drop-drop k i l, ← e) (sym (sets-eq xs l i (omega arith) ∙ append_assoc (take i l) xs (drop (i + length xs) l)))

-- ---- a loop that writes f 0, f 1, .. from index i on: where it begins, and a turn

pub loop_begins : (l : List ℕ) (i : ℕ) (f : ℕ → ℕ) → l ≡ sets l i (map f (range 0 0))
unfolding range
loop_begins l i f = refl

-- a turn of one that writes f i, f (i + 1), .. from index p on
pub loop_turns_from : (l : List ℕ) (p : ℕ) (f : ℕ → ℕ) (i n : ℕ) {s : List ℕ} {q x : ℕ} → s ≡ sets l p (map f (range i n)) → q ≡ p + n
    → x ≡ f (i + n) → set s q x ≡ sets l p (map f (range i (n + 1)))
loop_turns_from l p f i n hs hq hx =
    let one : map f (range i (suc n)) ≡ map f (range i n) ++ (f (i + n) ∷ []) =
    ap (map f) (range_snoc i n) ∙ map_append f (range i n) _ in
    rw (add-one, one, sets_append l p (map f (range i n)) (f (i + n) ∷ []), length_of_range f i n, hs, hq, hx)

pub loop_turns : (l : List ℕ) (i : ℕ) (f : ℕ → ℕ) (j : ℕ) {s : List ℕ} {p x : ℕ} → s ≡ sets l i (map f (range 0 j)) → p ≡ i + j → x ≡ f j
    → set s p x ≡ sets l i (map f (range 0 (j + 1)))
loop_turns l i f j hs hp hx = loop_turns_from l i f 0 j hs hp (hx ∙ ap f (sym (zero-add j)))
