-- The words for the lines of a file, and those in whose place they stand.
use Rattle.std.proofs.Common.{◌≡◌, ◌≢◌, inl, inr, ℕ, ◌+◌, ◌-◌, ◌<◌, ◌≤◌, List, [], ◌∷◌, ◌++◌, length, take, drop, get_or, map, Option, None, Some, Result, Ok, Err, Bor, refl, sym, ap, ap₂, subst, ◌∙◌, append_assoc, append-nil, arith}
use Rattle.std.specs.Prelude.{IsErrAnd, IfErr}
use Rattle.std.specs.Option.{MatchOption}
use Rattle.std.specs.Str.Lines.{lines}
use Rattle.std.proofs.lemmas.List.{length-drop, nil_from_length, drop-drop, drop_more, take-append-drop, take_all, map-append}
use Rattle.pickle_script.specs.declared.stop.Stop.{Stop}
use Rattle.program_answers.specs.Files.{Reports}
use Rattle.program_answers.specs.Skips.{skips, skip_word, StandFor, AddsFor, LacksLines, LacksWords}

pub no_path : (r : Option (Bor (List ℕ))) (bs : List ℕ) → MatchOption r ((rest : List ℕ) → bs ≢ 64 ∷ rest) (λ x. bs ≡ 64 ∷ x.now) → r ≡ None → (path : List ℕ) → bs ≡ 64 ∷ path → ⊥
no_path None bs h e = h
no_path (Some x) bs h e = absurd cc

-- ---- what stands for the first word

word_behind : (Read : List ℕ → List ℕ → Type 0) (word : List ℕ) (behind out : List (List ℕ))
    → ((next : List ℕ) (more : List (List ℕ)) (path : List ℕ) → behind ≡ next ∷ more → word ≡ skip_word → next ≡ 64 ∷ path → ⊥)
    → StandFor Read behind out → StandFor Read (word ∷ behind) (word ∷ out)
word_behind Read word [] out names s = ap (λ (t : List (List ℕ)). word ∷ t) s
word_behind Read word (next ∷ more) out names s = inr (λ w path e. names next more path refl w e, (out, s, refl))

pub word_added : (Read : List ℕ → List ℕ → Type 0) (word : List ℕ) (behind old new : List (List ℕ))
    → ((next : List ℕ) (more : List (List ℕ)) (path : List ℕ) → behind ≡ next ∷ more → word ≡ skip_word → next ≡ 64 ∷ path → ⊥)
    → new ≡ old ++ (word ∷ []) → AddsFor Read (word ∷ behind) behind old new
word_added Read word behind old new names is = record { added = word ∷ []; new_is = is; stand = λ out s. word_behind Read word behind out names s }

file_behind : (Read : List ℕ → List ℕ → Type 0) (word next path bytes : List ℕ) (more out : List (List ℕ)) → word ≡ skip_word → next ≡ 64 ∷ path → Read path bytes
    → StandFor Read more out → StandFor Read (word ∷ next ∷ more) (skips (lines bytes) ++ out)
file_behind Read word next path bytes more out w n read s = inl (w, (path, n, (bytes, read, (out, s, refl))))

pub file_added : {X : Type 0} (text : X → List ℕ) (Read : List ℕ → List ℕ → Type 0) (word path : List ℕ) (next : X) (behind rest : List X) (old new : List (List ℕ))
    → behind ≡ next ∷ rest → word ≡ skip_word → text next ≡ 64 ∷ path → ((bytes : List ℕ) × Read path bytes × (new ≡ old ++ skips (lines bytes)))
    → AddsFor Read (word ∷ map text behind) (map text (drop 1 behind)) old new
file_added text Read word path next behind rest old new parts w n h =
    rw parts (record { added = skips (lines h.0); new_is = h.2; stand = λ out s. file_behind Read word (text next) path h.0 (map text rest) out w n h.1 s })

-- a word behind which there is none, or one that names no file
pub nothing_behind : {X : Type 0} (text : X → List ℕ) (word : List ℕ) (behind : List X) → length behind ≡ 0
    → (next : List ℕ) (more : List (List ℕ)) (path : List ℕ) → map text behind ≡ next ∷ more → word ≡ skip_word → next ≡ 64 ∷ path → ⊥
nothing_behind text word [] z next more path e w n = absurd cc
nothing_behind text word (x ∷ xs) z next more path e w n = absurd (omega arith)

first_item : List (List ℕ) → List ℕ
first_item [] = []
first_item (x ∷ xs) = x

pub no_file_behind : {X : Type 0} (text : X → List ℕ) (word : List ℕ) (first : X) (behind rest : List X) → behind ≡ first ∷ rest
    → (word ≡ skip_word → (path : List ℕ) → text first ≢ 64 ∷ path)
    → (next : List ℕ) (more : List (List ℕ)) (path : List ℕ) → map text behind ≡ next ∷ more → word ≡ skip_word → next ≡ 64 ∷ path → ⊥
unfolding first_item
no_file_behind text word first behind rest parts names next more path e w n =
    let same : text first ≡ next = ap first_item (sym (ap (map text) parts) ∙ e) in
    names w path (same ∙ n)

-- ---- no words

pub lacks_file : {F O A X : Type 0} (text : X → List ℕ) (r : Reports F O) (files : F) (word path : List ℕ) (next : X) (behind rest : List X) (e : Stop) (result : Result A Stop)
    → behind ≡ next ∷ rest → word ≡ skip_word → text next ≡ 64 ∷ path → LacksLines r files path e → IsErrAnd result (λ y. y ≡ e) → IfErr result (LacksWords r files (word ∷ map text behind))
lacks_file text r files word path next behind rest e (Ok x) parts w n lacks is = absurd is
lacks_file text r files word path next behind rest e (Err x) parts w n lacks is =
    rw is (inr (path, ([], (map text rest, rw parts (ap₂ (λ (a b : List ℕ). a ∷ b ∷ map text rest) w n))), lacks))

-- behind other words
pub lacks_behind : {F O A : Type 0} (r : Reports F O) (files : F) (whole front words : List (List ℕ)) (e : Stop) (result : Result A Stop) → whole ≡ front ++ words
    → LacksWords r files words e → IsErrAnd result (λ y. y ≡ e) → IfErr result (LacksWords r files whole)
lacks_behind r files whole front words e (Ok x) parts lacks is = absurd is
lacks_behind r files whole front words e (Err x) parts (inl memory) is = inl (is ∙ memory)
lacks_behind r files whole front words e (Err x) parts (inr named) is =
    let names : words ≡ named.1.0 ++ (skip_word ∷ (64 ∷ named.0) ∷ named.1.1.0) = named.1.1.1 in
    rw is (inr (named.0, (front ++ named.1.0, (named.1.1.0, parts ∙ ap (λ (t : List (List ℕ)). front ++ t) names ∙ sym (append_assoc front named.1.0 (skip_word ∷ (64 ∷ named.0) ∷ named.1.1.0)))), named.2))

-- ---- all words

pub next_words : (Read : List ℕ → List ℕ → Type 0) (given words words' rest rest' : List (List ℕ)) → ((out : List (List ℕ)) → StandFor Read rest out → StandFor Read given (words ++ out))
    → AddsFor Read rest rest' words words' → (out : List (List ℕ)) → StandFor Read rest' out → StandFor Read given (words' ++ out)
next_words Read given words words' rest rest' so adds out s =
    subst (λ (t : List (List ℕ)). StandFor Read given t) (sym (append_assoc words adds.added out) ∙ ap (λ (t : List (List ℕ)). t ++ out) (sym adds.new_is)) (so (adds.added ++ out) (adds.stand out s))

pub words_at : {X : Type 0} (text : X → List ℕ) (given : List X) (i : ℕ) (x : X) (word : List ℕ) → i < length given → x ≡ get_or given i x → word ≡ text x
    → map text (drop i given) ≡ word ∷ map text (drop (i + 1) given)
words_at text given i x word within at is =
    ap (map text) (drop_more given i x within) ∙ ap (λ (w : List ℕ). w ∷ map text (drop (i + 1) given)) (ap text (sym at) ∙ sym is)

some_at : {X : Type 0} (text : X → List ℕ) (Read : List ℕ → List ℕ → Type 0) (given : List X) (words words' : List (List ℕ)) (i n : ℕ) (x : X) (word : List ℕ)
    → i < length given → x ≡ get_or given i x → word ≡ text x → n ≤ length (drop (i + 1) given)
    → ((out : List (List ℕ)) → StandFor Read (map text (drop i given)) out → StandFor Read (map text given) (words ++ out))
    → AddsFor Read (word ∷ map text (drop (i + 1) given)) (map text (drop n (drop (i + 1) given))) words words'
    → (i + (1 + n) ≤ length given) × ((out : List (List ℕ)) → StandFor Read (map text (drop (i + (1 + n)) given)) out → StandFor Read (map text given) (words' ++ out))
some_at text Read given words words' i n x word within at is few so adds =
    let first : map text (drop i given) ≡ word ∷ map text (drop (i + 1) given) = words_at text given i x word within at is in
    let sum : i + (1 + n) ≡ (i + 1) + n = omega arith in
    let rest : drop n (drop (i + 1) given) ≡ drop (i + (1 + n)) given = drop-drop n (i + 1) given ∙ ap (λ (k : ℕ). drop k given) (sym sum) in
    let from = subst (λ (t : List (List ℕ)). (out : List (List ℕ)) → StandFor Read t out → StandFor Read (map text given) (words ++ out)) first so in
    let added = subst (λ (t : List _). AddsFor Read (word ∷ map text (drop (i + 1) given)) (map text t) words words') rest adds in
    (omega (arith, length-drop (i + 1) given, few, within), next_words Read (map text given) words words' (word ∷ map text (drop (i + 1) given)) (map text (drop (i + (1 + n)) given)) from added)

lacks_at : {F O A X : Type 0} (text : X → List ℕ) (r : Reports F O) (files : F) (given : List X) (i : ℕ) (x : X) (word : List ℕ) (e : Stop) (result : Result A Stop)
    → i < length given → x ≡ get_or given i x → word ≡ text x → LacksWords r files (word ∷ map text (drop (i + 1) given)) e → IsErrAnd result (λ y. y ≡ e)
    → IfErr result (LacksWords r files (map text given))
lacks_at text r files given i x word e result within at is lacks err =
    let whole : map text given ≡ map text (take i given) ++ (word ∷ map text (drop (i + 1) given)) =
    ap (map text) (sym (take-append-drop i given)) ∙ map-append text (take i given) (drop i given)
    ∙ ap (λ (t : List (List ℕ)). map text (take i given) ++ t) (words_at text given i x word within at is) in
    lacks_behind r files (map text given) (map text (take i given)) (word ∷ map text (drop (i + 1) given)) e result whole lacks err

-- the words from a place on
pub from_place : {X : Type 0} (given : List X) (k : ℕ) → take (length given - k) (drop k given) ≡ drop k given
from_place given k = take_all (length given - k) (drop k given) (omega (arith, length-drop k given))

pub some_words : {X : Type 0} (text : X → List ℕ) (Read : List ℕ → List ℕ → Type 0) (given behind : List X) (words words' : List (List ℕ)) (i n : ℕ) (x : X) (word : List ℕ)
    → i < length given → x ≡ get_or given i x → word ≡ text x → behind ≡ drop (i + 1) given → n ≤ length behind
    → ((out : List (List ℕ)) → StandFor Read (map text (drop i given)) out → StandFor Read (map text given) (words ++ out))
    → AddsFor Read (word ∷ map text behind) (map text (drop n behind)) words words'
    → (i + (1 + n) ≤ length given) × ((out : List (List ℕ)) → StandFor Read (map text (drop (i + (1 + n)) given)) out → StandFor Read (map text given) (words' ++ out))
some_words text Read given behind words words' i n x word within at is rest few so adds =
    some_at text Read given words words' i n x word within at is (subst (λ (b : List _). n ≤ length b) rest few) so
    (subst (λ (b : List _). AddsFor Read (word ∷ map text b) (map text (drop n b)) words words') rest adds)

pub lacks_from : {F O A X : Type 0} (text : X → List ℕ) (r : Reports F O) (files : F) (given behind : List X) (i : ℕ) (x : X) (word : List ℕ) (e : Stop) (result : Result A Stop)
    → i < length given → x ≡ get_or given i x → word ≡ text x → behind ≡ drop (i + 1) given → LacksWords r files (word ∷ map text behind) e → IsErrAnd result (λ y. y ≡ e)
    → IfErr result (LacksWords r files (map text given))
lacks_from text r files given behind i x word e result within at is rest lacks err =
    lacks_at text r files given i x word e result within at is (subst (λ (b : List _). LacksWords r files (word ∷ map text b) e) rest lacks) err

pub all_words : {X : Type 0} (text : X → List ℕ) (Read : List ℕ → List ℕ → Type 0) (given : List X) (words : List (List ℕ)) (i : ℕ) → length given ≤ i
    → ((out : List (List ℕ)) → StandFor Read (map text (drop i given)) out → StandFor Read (map text given) (words ++ out)) → StandFor Read (map text given) words
all_words text Read given words i end so =
    let none : drop i given ≡ [] = nil_from_length (drop i given) (omega (arith, length-drop i given, end)) in
    subst (λ (t : List (List ℕ)). StandFor Read (map text given) t) (append-nil words) (so [] (rw none refl))
