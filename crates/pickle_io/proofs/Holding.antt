-- What is reported of a sink with a text in front of it, which was taken and not handed on.
use Rattle.std.proofs.Common.{◌≡◌, ℕ, ◌+◌, ◌-◌, ◌≤◌, List, [], ◌∷◌, ◌++◌, length, take, drop, Option, None, Some, refl, sym, ap, subst, ◌∙◌, append_assoc, length-append, arith}
use Rattle.std.specs.Io.KnownBytes.{Appends, append_known}
use Rattle.std.proofs.lemmas.List.{append-nil, length-drop, take_all, take-append-drop, drop-drop}
use Rattle.std.proofs.Math.Seq.{take-append_seam, take-append-add}
use Rattle.pickle_io.specs.Device.{Told, holding, NoFewer, AppendsPrefix, Wrote, Broke}
use Rattle.pickle_io.proofs.Devices.{Wrote-trans}

pushed : (known : Option (List ℕ)) (held text : List ℕ) → Appends (append_known known held) (append_known known (held ++ text)) text
pushed None held text = tt
pushed (Some bytes) held text = sym (append_assoc bytes held text)

kept : (known : Option (List ℕ)) (i : ℕ) (held text : List ℕ) → NoFewer (append_known known held) (i + length held) (append_known known (held ++ text)) (i + length (held ++ text))
kept None i held text = tt
kept (Some bytes) i held text = omega (arith, length-append bytes held, length-append bytes (held ++ text), length-append held text)

-- the same text in front of it
under : (old new : Option (List ℕ)) (i j : ℕ) (held : List ℕ) → NoFewer old i new j → NoFewer (append_known old held) (i + length held) (append_known new held) (j + length held)
under None new i j held p = tt
under (Some bytes) None i j held p = tt
under (Some bytes) (Some more) i j held p = omega (arith, length-append bytes held, length-append more held, p)

-- it takes a text and holds it
pub holding-more : (told : Told) (held text : List ℕ) → Wrote (holding told held) (holding told (held ++ text)) text
holding-more told held text = record { taken = pushed told.taken held text; stays = kept told.taken told.held held text; calm = refl }

handed : (old new : Option (List ℕ)) (text held : List ℕ) → Appends old new text → Appends (append_known old (text ++ held)) (append_known new held) []
handed None new text held p = tt
handed (Some bytes) None text held p = absurd p
handed (Some bytes) (Some more) text held p = ap (λ (t : List ℕ). t ++ held) p ∙ append_assoc bytes text held ∙ sym (append-nil (bytes ++ (text ++ held)))

less : (old new : Option (List ℕ)) (i j : ℕ) (text held : List ℕ) → Appends old new text → NoFewer old i new j
    → NoFewer (append_known old (text ++ held)) (i + length (text ++ held)) (append_known new held) (j + length held)
less None new i j text held e p = tt
less (Some bytes) None i j text held e p = absurd e
less (Some bytes) (Some more) i j text held e p = omega (arith, length-append bytes (text ++ held), length-append more held, p)

-- it hands a text on
pub holding-less : (old new : Told) (text held : List ℕ) → Wrote old new text → Wrote (holding old (text ++ held)) (holding new held) []
holding-less old new text held p = record {
  taken = handed old.taken new.taken text held p.taken;
  stays = less old.taken new.taken old.held new.held text held p.taken p.stays;
  calm = p.calm;
}

stays : (old new : Option (List ℕ)) (held : List ℕ) → AppendsPrefix old new [] → AppendsPrefix (append_known old held) (append_known new held) []
stays None new held p = tt
stays (Some bytes) None held p = tt
stays (Some bytes) (Some more) held ([], r, e) = ([], ([], refl), ap (λ (t : List ℕ). t ++ held) (e ∙ append-nil bytes) ∙ sym (append-nil (bytes ++ held)))
stays (Some bytes) (Some more) held (b ∷ bs, (rest, e), same) = absurd cc

-- the sink fails, and nothing that is held is lost
pub holding-still : (old new : Told) (held : List ℕ) → Broke old new [] → Broke (holding old held) (holding new held) []
holding-still old new held p = record {
  front = stays old.taken new.taken held p.front;
  stays = under old.taken new.taken old.held new.held held p.stays;
  rises = p.rises;
  failed = p.failed;
}

-- this many bytes more of a text were taken, of those from a place on
pub holding-next : (a t u : Told) (first text : List ℕ) (place n : ℕ) → n ≤ length (take (length text - place) (drop place text))
    → Wrote (holding a first) (holding t (drop place text)) [] → Wrote t u (take n (take (length text - place) (drop place text)))
    → Wrote (holding a first) (holding u (drop (place + n) text)) []
holding-next a t u first text place n few p q =
    let rest : take (length text - place) (drop place text) ≡ drop place text = take_all (length text - place) (drop place text) (omega (arith, length-drop place text)) in
    let taken : Wrote t u (take n (drop place text)) = rw rest at q in
    let parts : drop place text ≡ take n (drop place text) ++ drop (place + n) text = sym (take-append-drop n (drop place text)) ∙ ap (λ (l : List ℕ). take n (drop place text) ++ l) (drop-drop n place text) in
    let less : Wrote (holding t (drop place text)) (holding u (drop (place + n) text)) [] =
    subst (λ (l : List ℕ). Wrote (holding t l) (holding u (drop (place + n) text)) []) (sym parts) (holding-less t u (take n (drop place text)) (drop (place + n) text) taken) in
    Wrote-trans (holding a first) (holding t (drop place text)) (holding u (drop (place + n) text)) [] [] p less

pub ruleset holding_steps = (holding-more, holding-still)

-- ---- what is at the sink itself, where nothing was held at first

record Cut (bytes more text : List ℕ) : Type 0 where
  front : List ℕ
  rest : List ℕ
  parts : text ≡ front ++ rest
  grown : more ≡ bytes ++ front

cut_before : (bytes more held front rest text : List ℕ) → text ≡ front ++ rest → more ++ held ≡ bytes ++ front → length bytes ≤ length more → Cut bytes more text
cut_before bytes more held front rest text e p few =
    let n = length more - length bytes in
    let count : length bytes + n ≡ length more = omega (arith, few) in
    let grown : more ≡ bytes ++ take n front =
    sym (take-append_seam more held) ∙ ap (take (length more)) p ∙ ap (λ (k : ℕ). take k (bytes ++ front)) (sym count) ∙ take-append-add bytes front n in
    let parts : text ≡ take n front ++ (drop n front ++ rest) =
    e ∙ ap (λ (t : List ℕ). t ++ rest) (sym (take-append-drop n front)) ∙ append_assoc (take n front) (drop n front) rest in
    record { front = take n front; rest = drop n front ++ rest; parts = parts; grown = grown }

front_below : (old new : Option (List ℕ)) (i j : ℕ) (held text : List ℕ) → i ≡ 0 → AppendsPrefix old (append_known new held) text → NoFewer old i (append_known new held) (j + length held)
    → AppendsPrefix old new text
front_below None new i j held text none p q = tt
front_below (Some bytes) None i j held text none p q = tt
front_below (Some bytes) (Some more) i j held text none p q =
    let few : length bytes ≤ length more = omega (arith, length-append more held, q, none) in
    let c = cut_before bytes more held p.0 p.1.0 text p.1.1 p.2 few in
    (c.front, (c.rest, c.parts), c.grown)

fewer_below : (old new : Option (List ℕ)) (i j : ℕ) (held : List ℕ) → NoFewer old i (append_known new held) (j + length held) → NoFewer old i new j
fewer_below None new i j held q = tt
fewer_below (Some bytes) None i j held q = tt
fewer_below (Some bytes) (Some more) i j held q = omega (arith, length-append more held, q)

-- what was broken off with a text in front of the sink was broken off at the sink
pub Broke-below : (old new : Told) (held text : List ℕ) → old.held ≡ 0 → Broke old (holding new held) text → Broke old new text
Broke-below old new held text none p = record {
  front = front_below old.taken new.taken old.held new.held held text none p.front p.stays;
  stays = fewer_below old.taken new.taken old.held new.held held p.stays;
  rises = p.rises;
  failed = p.failed;
}

no_more : (known : Option (List ℕ)) → append_known known [] ≡ known
no_more None = refl
no_more (Some bytes) = ap Some (append-nil bytes)

none : (text : List ℕ) → length text ≡ 0 → text ≡ []
none [] e = refl
none (b ∷ bs) e = absurd cc

-- a sink in front of which no byte is held reports what it took
pub nothing-held : (told : Told) (held : List ℕ) → (holding told held).held ≡ 0 → holding told held ≡ told
nothing-held told held e =
    let empty : held ≡ [] = none held (omega (arith, e)) in
    let count : told.held + 0 ≡ told.held = omega arith in
    rw empty (ap (λ (t : Option (List ℕ)). record told { taken = t; held = told.held + 0 }) (no_more told.taken) ∙ ap (λ (n : ℕ). record told { held = n }) count)
