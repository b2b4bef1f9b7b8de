-- What clap's walk over words that pass keeps of the matches, and where it stops.
use Rattle.std.proofs.Common.{◌≡◌, ◌∙◌, ◌&&◌, ◌||◌, ℕ, Bool, cond, true, false, zero, suc, not, List, [], ◌∷◌, length, drop, find, fold, Option, Some, None, is_some, option_map, encode_utf8, chars, bytes_eq, slice_get, codes, refl, ap, subst}
use Rattle.std.specs.Bool.{⊤}
use Rattle.std.specs.Option.{option_map_or}
use Rattle.clap.specs.Lexer.{long_of, short_of}
use Rattle.clap.specs.Walk.{Held, Names, Outcome, Row, Rule, Step, Text, Waiting, Walk, done, waits, plain, refused, idle, option, positional, next, trailing, subcommand, value, after_flag, after_step, answers_to, arg_by_id, arg_by_index, arg_by_long, arg_by_short, attached_value, bundle, bundle_met, bundle_step, flag_met, has_long, has_short, is_pending, long_met, long_or_other, nothing_held, option_met, option_word, plain_word, reacted, rows_after, settled, settled_rows, short_met, short_or_plain, stop_after, subcommand_met, subcommand_or_other, takes_several, takes_values, to_positional, used, used_by_id, walk, walk_from, walked, walked_from, with_default, word_met}
use Rattle.clap.specs.Simple.{App, Shape, entered, label_of, names_of, rows_at}
use Rattle.clap.specs.Takes.{bundle_passes, bundle_step_passes, built_takes, entered_passes, flag_word_passes, flags_pass, is_valid, level_passes, long_passes, option_passes, other_passes, positional_passes, react_passes, settle_passes, short_passes, step_passes, turn_passes, use_passes, walk_passes, word_passes}
use Rattle.clap.proofs.WalkLemmas.{both}

-- ---- lists

-- each element is so
abbrev pub Each : {X : Type 0} → (X → Type 0) → List X → Type 0
Each P [] = ⊤
Each P (x ∷ xs) = P x × Each P xs

-- what a search finds is as each element that passes is
pub found_each : {X : Type 0} (P : X → Type 0) (p : X → Bool) (xs : List X) (x : X) → find p xs ≡ Some x → Each (λ y. p y ≡ true → P y) xs → P x
found_each P p [] x e h = absurd cc
found_each P p (y ∷ ys) x e h = go (p y) refl e (λ is. found_each P p ys x is h.1)
  where
    go : (b : Bool) → p y ≡ b → cond b (Some y) (find p ys) ≡ Some x → (find p ys ≡ Some x → P x) → P x
    go true t is deep =
        let same : y ≡ x = cc in
        subst P same (h.0 t)
    go false t is deep = deep is

pub each_always : {X : Type 0} (P : X → Type 0) (p : X → Bool) (xs : List X) → Each P xs → Each (λ y. p y ≡ true → P y) xs
each_always P p [] h = tt
each_always P p (x ∷ xs) h = ((λ _. h.0), each_always P p xs h.1)

-- ---- what a use and a default keep of the rows

abbrev pub Keeps : (List Row → Type 0) → Bool → Rule → Type 0
Keeps Q again a = (values : List Text) (rows : List Row) → use_passes again a values rows ≡ true → Q rows → Q (used a values rows)

abbrev pub KeepsDefault : (List Row → Type 0) → Rule → Type 0
KeepsDefault Q a = (rows : List Row) → Q rows → Q (with_default rows a)

-- ---- a flag word

module _ (Q : List Row → Type 0) (c : List Rule) (again : Bool) (keeps : Each (Keeps Q again) c) where
  by : (p : Rule → Bool) (a : Rule) → find p c ≡ Some a → Keeps Q again a
  by p a e = found_each (Keeps Q again) p c a e (each_always (Keeps Q again) p c keeps)

  by_long : (name : Text) (a : Rule) → arg_by_long c name ≡ Some a → Keeps Q again a
  by_long name a e = by (λ r. not (is_some r.index) && has_long r name) a e

  by_short : (x : ℕ) (a : Rule) → arg_by_short c x ≡ Some a → Keeps Q again a
  by_short x a e = by (λ r. not (is_some r.index) && has_short r x) a e

  used_keeps : (o : Option Rule) (values : List Text) (rows : List Row) → ((a : Rule) → o ≡ Some a → Keeps Q again a)
      → option_map_or (λ a. use_passes again a values rows) o true ≡ true → Q rows → Q (used_by_id o values rows)
  used_keeps None values rows k e q = q
  used_keeps (Some a) values rows k e q = k a refl values rows e q

  pending_keeps : (p : Option (Text × List Text)) (rows : List Row)
      → option_map_or (λ p. option_map_or (λ a. use_passes again a p.1 rows) (arg_by_id c p.0) true) p true ≡ true → Q rows → Q (settled_rows c p rows)
  pending_keeps None rows e q = q
  pending_keeps (Some p) rows e q = used_keeps (arg_by_id c p.0) p.1 rows (by (λ a. bytes_eq a.id p.0)) e q

  pub settled_keeps : (h : Held) → settle_passes c again h ≡ true → Q h.rows → Q (settled c h).rows
  settled_keeps h e q = pending_keeps h.pending h.rows e q

  reacted_keeps : (a : Rule) (values : List Text) (h : Held) → Keeps Q again a → react_passes c again a values h ≡ true → Q h.rows
      → Q (reacted c a values h).rows
  reacted_keeps a values h k e q =
      let p = both (settle_passes c again h) _ e in
      k values (settled c h).rows p.1 (settled_keeps h p.0 q)

  option_keeps : (a : Rule) (v : Option Text) (h : Held) → Keeps Q again a → option_passes c again a v h ≡ true → Q h.rows → Q (option_met c a v h).0.rows
  option_keeps a (Some v) h k e q = reacted_keeps a (v ∷ []) h k e q
  option_keeps a None h k e q = settled_keeps h e q

  long_rule : (b : Bool) (a : Rule) (v : Option Text) (h : Held) → Keeps Q again a
      → cond b (option_passes c again a v h) (not (is_some v) && react_passes c again a [] h) ≡ true → Q h.rows
      → Q (cond b (option_met c a v h) (flag_met c a v h)).0.rows
  long_rule true a v h k e q = option_keeps a v h k e q
  long_rule false a (Some v) h k e q = q
  long_rule false a None h k e q = reacted_keeps a [] h k e q

  long_keeps : (o : Option Rule) (v : Option Text) (h : Held) → ((a : Rule) → o ≡ Some a → Keeps Q again a) → long_passes c again o v h ≡ true → Q h.rows
      → Q (long_met c o v h).0.rows
  long_keeps None v h k e q = q
  long_keeps (Some a) v h k e q = long_rule (takes_values a) a v h (k a refl) e q

  short_rule : (b : Bool) (a : Rule) (rest : Text) (h : Held) (more : Held → Held × Outcome) (passes : Held → Bool) → Keeps Q again a
      → ((g : Held) → passes g ≡ true → Q g.rows → Q (more g).0.rows)
      → cond b (option_passes c again a (attached_value rest) h) (react_passes c again a [] h && passes (reacted c a [] h)) ≡ true → Q h.rows
      → Q (cond b (option_met c a (attached_value rest) h) (more (reacted c a [] h))).0.rows
  short_rule true a rest h more passes k m e q = option_keeps a (attached_value rest) h k e q
  short_rule false a rest h more passes k m e q =
      let p = both (react_passes c again a [] h) _ e in
      m (reacted c a [] h) p.1 (reacted_keeps a [] h k p.0 q)

  short_keeps : (o : Option Rule) (rest : Text) (h : Held) (more : Held → Held × Outcome) (passes : Held → Bool) → ((a : Rule) → o ≡ Some a → Keeps Q again a)
      → ((g : Held) → passes g ≡ true → Q g.rows → Q (more g).0.rows) → short_passes c again o rest h passes ≡ true → Q h.rows
      → Q (short_met c o rest h more).0.rows
  short_keeps None rest h more passes k m e q = q
  short_keeps (Some a) rest h more passes k m e q = short_rule (takes_values a) a rest h more passes (k a refl) m e q

  step_keeps : (o : Option ℕ) (flags : Text) (skip : ℕ) (so_far : Outcome) (h : Held) (more : Text → ℕ → Outcome → Held
      → Held × Outcome) (passes : Text → ℕ → Held → Bool)
      → ((t : Text) (n : ℕ) (s : Outcome) (g : Held) → passes t n g ≡ true → Q g.rows → Q (more t n s g).0.rows)
      → bundle_step_passes c again o flags skip h passes ≡ true → Q h.rows → Q (bundle_step c o flags skip so_far h more).0.rows
  step_keeps None flags skip so_far h more passes m e q = q
  step_keeps (Some x) flags zero so_far h more passes m e q =
      let rest = drop (length (encode_utf8 x)) flags in
      short_keeps (arg_by_short c x) rest h (more rest 0 done) (passes rest 0) (by_short x) (m rest 0 done) e q
  step_keeps (Some x) flags (suc skip) so_far h more passes m e q = m (drop (length (encode_utf8 x)) flags) skip so_far h e q

  bundle_keeps : (k : ℕ) (flags : Text) (skip : ℕ) (so_far : Outcome) (h : Held) → flags_pass c again k flags skip h ≡ true → Q h.rows
      → Q (bundle_met c k flags skip so_far h).0.rows
  unfolding bundle_met flags_pass
  bundle_keeps zero flags skip so_far h e q = q
  bundle_keeps (suc k) flags skip so_far h e q =
      step_keeps (slice_get (chars flags) 0) flags skip so_far h (bundle_met c k) (flags_pass c again k) (λ t n s g f r. bundle_keeps k t n s g f r) e q

  option_same : (o : Option Rule) (id word : Text) (h : Held) → Q h.rows → Q (option_word o id word h).0.rows
  option_same None id word h q = q
  option_same (Some a) id word h q = q

  plain_same : (w : Waiting) (word : Text) (h : Held) → Q h.rows → Q (plain_word c w word h).0.rows
  plain_same idle word h q = q
  plain_same (option id) word h q = option_same (arg_by_id c id) id word h q
  plain_same positional word h q = q

  flag_same : (w : Waiting) (word : Text) (h : Held) (o : Outcome) → Q h.rows → Q (after_flag c w word h o).0.rows
  flag_same w word h done q = q
  flag_same w word h (waits id) q = q
  flag_same w word h plain q = plain_same w word h q
  flag_same w word h refused q = plain_same w word h q

  short_word_keeps : (o : Option Text) (w : Waiting) (word : Text) (h : Held) → option_map_or (λ flags. bundle_passes c again flags h) o true ≡ true → Q h.rows
      → Q (short_or_plain c w word o h).0.rows
  short_word_keeps None w word h e q = plain_same w word h q
  short_word_keeps (Some flags) w word h e q =
      flag_same w word (bundle c flags h).0 (bundle c flags h).1 (bundle_keeps (length flags) flags h.skip plain (record h { skip = 0 }) e q)

  pub flag_word_keeps : (o : Option (Text × Option Text)) (w : Waiting) (word : Text) (h : Held) → flag_word_passes c again o word h ≡ true → Q h.rows
      → Q (long_or_other c w word o h).0.rows
  flag_word_keeps (Some p) w word h e q =
      let met = long_met c (arg_by_long c p.0) p.1 h in
      flag_same w word met.0 met.1 (long_keeps (arg_by_long c p.0) p.1 h (by_long p.0) e q)
  flag_word_keeps None w word h e q = short_word_keeps (short_of word) w word h e q

  positional_keeps : (b : Bool) (h : Held) → (b || settle_passes c again h) ≡ true → Q h.rows → Q (cond b h (settled c h)).rows
  positional_keeps true h e q = q
  positional_keeps false h e q = settled_keeps h e q

  pub to_positional_keeps : (o : Option Rule) (word : Text) (w : Walk) (h : Held) → option_map_or (λ a. positional_passes c again a h) o false ≡ true → Q h.rows
      → Q (to_positional c o word w h).held.rows
  to_positional_keeps None word w h e q = q
  to_positional_keeps (Some a) word w h e q = positional_keeps (is_pending a h.pending && takes_several a) h e q

-- ---- the walk

-- the test of a word, where the walk has this stop
abbrev tested : Shape → Names → Option (Text × List Text) → Walk → Text → Bool
tested s names o w word =
    let met = word_met s.rules names w.is_trailing w.waiting w.position word w.held in
    is_some o || (word_passes s names w.is_trailing w.waiting word w.held && step_passes s w.position met.0 met.1)

module _ (Q : List Row → Type 0) (s : Shape) (keeps : Each (Keeps Q s.args_override_self) s.rules) where
  dashes_keep : (b : Bool) (w : Waiting) (position : ℕ) (word : Text) (h : Held)
      → (b || flag_word_passes s.rules s.args_override_self (long_of word) word h) ≡ true → Q h.rows
      → Q (cond b (h, trailing position) (long_or_other s.rules w word (long_of word) h)).0.rows
  dashes_keep true w position word h e q = q
  dashes_keep false w position word h e q = flag_word_keeps Q s.rules s.args_override_self keeps (long_of word) w word h e q

  other_keeps : (o : Option Text) (w : Waiting) (position : ℕ) (word : Text) (h : Held) → other_passes s o word h ≡ true → Q h.rows
      → Q (subcommand_or_other s.rules o w position word h).0.rows
  other_keeps (Some name) w position word h e q = q
  other_keeps None w position word h e q = dashes_keep (bytes_eq word (45 ∷ 45 ∷ [])) w position word h e q

  word_keeps : (names : Names) (is_trailing : Bool) (w : Waiting) (position : ℕ) (word : Text) (h : Held)
      → word_passes s names is_trailing w word h ≡ true → Q h.rows
      → Q (word_met s.rules names is_trailing w position word h).0.rows
  word_keeps names true w position word h e q = q
  word_keeps names false w position word h e q = other_keeps (subcommand_met names w word) w position word h e q

  after_keeps : (word : Text) (w : Walk) (h : Held) (step : Step) → step_passes s w.position h step ≡ true → Q h.rows
      → Q (after_step s.rules word w h step).held.rows
  after_keeps word w h (next waiting) e q = q
  after_keeps word w h (trailing position) e q = q
  after_keeps word w h (subcommand name) e q = q
  after_keeps word w h value e q = to_positional_keeps Q s.rules s.args_override_self keeps (arg_by_index s.rules w.position) word w h e q

  from_keeps : (names : Names) (o : Option (Text × List Text)) (w : Walk) (word : Text) → tested s names o w word ≡ true → Q w.held.rows
      → Q (walked_from s.rules names o w word).held.rows
  from_keeps names (Some p) w word e q = q
  from_keeps names None w word e q =
      let p = both (word_passes s names w.is_trailing w.waiting word w.held) _ e in
      after_keeps word w _ _ p.1 (word_keeps names w.is_trailing w.waiting w.position word w.held p.0 q)

  turn_keeps : (names : Names) (w : Walk) (word : Text) → turn_passes s names w word ≡ true → Q w.held.rows → Q (walked s.rules names w word).held.rows
  unfolding walked
  turn_keeps names w word e q = from_keeps names w.stopped w word e q

  walk_keeps : (names : Names) (w : Walk) (words : List Text) → walk_passes s names w words ≡ true → Q w.held.rows
      → Q (fold (walked s.rules names) w words).held.rows
  unfolding walk_passes
  walk_keeps names w [] e q = q
  walk_keeps names w (word ∷ rest) e q =
      let p = both (turn_passes s names w word) _ e in
      walk_keeps names (walked s.rules names w word) rest p.1 (turn_keeps names w word p.0 q)

defaults_keep : (Q : List Row → Type 0) (c : List Rule) (rows : List Row) → Each (KeepsDefault Q) c → Q rows → Q (fold with_default rows c)
defaults_keep Q [] rows k q = q
defaults_keep Q (a ∷ rest) rows k q = defaults_keep Q rest (with_default rows a) k.1 (k.0 rows q)

-- what every use and every default keeps holds of the matches of words that pass
pub level_keeps : (Q : List Row → Type 0) (s : Shape) (names : Names) (words : List Text) (has : Bool) → Each (Keeps Q s.args_override_self) s.rules
    → Each (KeepsDefault Q) s.rules → Q [] → level_passes s names nothing_held words has ≡ true → Q (rows_after s.rules names words)
level_keeps Q s names words has keeps defaults none e =
    let end = (walk s.rules names nothing_held words).held in
    let p = both (walk_passes s names (walk_from nothing_held) words) _ e in
    let settles = both (settle_passes s.rules s.args_override_self end) _ p.1 in
    defaults_keep Q s.rules (settled s.rules end).rows defaults
    (settled_keeps Q s.rules s.args_override_self keeps end settles.0 (walk_keeps Q s keeps names (walk_from nothing_held) words p.0 none))

-- and what is required was given
pub level_is_valid : (s : Shape) (names : Names) (words : List Text) (has : Bool) → level_passes s names nothing_held words has ≡ true
    → is_valid s (rows_after s.rules names words) has ≡ true
level_is_valid s names words has e =
    let end = (walk s.rules names nothing_held words).held in
    let p = both (walk_passes s names (walk_from nothing_held) words) _ e in
    let settles = both (settle_passes s.rules s.args_override_self end) _ p.1 in
    (both _ _ settles.1).1

-- ---- where a walk stops

-- a word of this name is no call for help
abbrev pub no_help : Shape → Text → Bool
no_help s name = not (bytes_eq name (codes "help")) || s.disable_help_subcommand

abbrev named_by : Step → Option Text
named_by (subcommand name) = Some name
named_by _ = None

abbrev stops_well : Shape → Option (Text × List Text) → Type 0
stops_well s stop = option_map_or (λ p. no_help s p.0) stop true ≡ true

module _ (s : Shape) (names : Names) where
  plain_names_none : (w : Waiting) (word : Text) (h : Held) → named_by (plain_word s.rules w word h).1 ≡ None
  plain_names_none idle word h = refl
  plain_names_none (option id) word h = refl
  plain_names_none positional word h = refl

  flag_names_none : (w : Waiting) (word : Text) (h : Held) (o : Outcome) → named_by (after_flag s.rules w word h o).1 ≡ None
  flag_names_none w word h done = refl
  flag_names_none w word h (waits id) = refl
  flag_names_none w word h plain = plain_names_none w word h
  flag_names_none w word h refused = plain_names_none w word h

  short_names_none : (o : Option Text) (w : Waiting) (word : Text) (h : Held) → named_by (short_or_plain s.rules w word o h).1 ≡ None
  short_names_none None w word h = plain_names_none w word h
  short_names_none (Some flags) w word h = flag_names_none w word (bundle s.rules flags h).0 (bundle s.rules flags h).1

  long_names_none : (o : Option (Text × Option Text)) (w : Waiting) (word : Text) (h : Held) → named_by (long_or_other s.rules w word o h).1 ≡ None
  long_names_none (Some p) w word h =
      let met = long_met s.rules (arg_by_long s.rules p.0) p.1 h in
      flag_names_none w word met.0 met.1
  long_names_none None w word h = short_names_none (short_of word) w word h

  dashes_name_none : (b : Bool) (w : Waiting) (position : ℕ) (word : Text) (h : Held)
      → named_by (cond b (h, trailing position) (long_or_other s.rules w word (long_of word) h)).1 ≡ None
  dashes_name_none true w position word h = refl
  dashes_name_none false w position word h = long_names_none (long_of word) w word h

  -- the name of a subcommand is no call for help
  other_names : (o : Option Text) (w : Waiting) (position : ℕ) (word : Text) (h : Held) → other_passes s o word h ≡ true
      → option_map_or (no_help s) (named_by (subcommand_or_other s.rules o w position word h).1) true ≡ true
  other_names (Some name) w position word h e = e
  other_names None w position word h e = ap (λ n. option_map_or (no_help s) n true) (dashes_name_none (bytes_eq word (45 ∷ 45 ∷ [])) w position word h)

  word_names : (is_trailing : Bool) (w : Waiting) (position : ℕ) (word : Text) (h : Held) → word_passes s names is_trailing w word h ≡ true
      → option_map_or (no_help s) (named_by (word_met s.rules names is_trailing w position word h).1) true ≡ true
  word_names true w position word h e = refl
  word_names false w position word h e = other_names (subcommand_met names w word) w position word h e

  positional_stops : (o : Option Rule) (word : Text) (w : Walk) (h : Held) → stops_well s w.stopped → stops_well s (to_positional s.rules o word w h).stopped
  positional_stops None word w h well = well
  positional_stops (Some a) word w h well = refl

  after_stops : (word : Text) (w : Walk) (h : Held) (step : Step) → option_map_or (no_help s) (named_by step) true ≡ true → stops_well s w.stopped
      → stops_well s (after_step s.rules word w h step).stopped
  after_stops word w h (next waiting) e well = well
  after_stops word w h (trailing position) e well = well
  after_stops word w h (subcommand name) e well = e
  after_stops word w h value e well = positional_stops (arg_by_index s.rules w.position) word w h well

  from_stops : (o : Option (Text × List Text)) (w : Walk) (word : Text) → tested s names o w word ≡ true → stops_well s o → stops_well s w.stopped
      → stops_well s (walked_from s.rules names o w word).stopped
  from_stops (Some p) w word e here well = here
  from_stops None w word e here well =
      let p = both (word_passes s names w.is_trailing w.waiting word w.held) _ e in
      let met = word_met s.rules names w.is_trailing w.waiting w.position word w.held in
      after_stops word w met.0 met.1 (word_names w.is_trailing w.waiting w.position word w.held p.0) well

  turn_stops : (w : Walk) (word : Text) → turn_passes s names w word ≡ true → stops_well s w.stopped → stops_well s (walked s.rules names w word).stopped
  unfolding walked
  turn_stops w word e well = from_stops w.stopped w word e well well

  walk_stops : (w : Walk) (words : List Text) → walk_passes s names w words ≡ true → stops_well s w.stopped
      → stops_well s (fold (walked s.rules names) w words).stopped
  unfolding walk_passes
  walk_stops w [] e well = well
  walk_stops w (word ∷ rest) e well =
      let p = both (turn_passes s names w word) _ e in
      walk_stops (walked s.rules names w word) rest p.1 (turn_stops w word p.0 well)

-- ---- the subcommand that words name

-- the walk stopped at a name that is no call for help, and the subcommand of this name takes the words after it
pub record Enters (a : App) (stop : Option (Text × List Text)) : Type 0 where
  pub name : Text
  pub rest : List Text
  pub sub : Shape
  pub stop_is : stop ≡ Some (name, rest)
  pub called : no_help a.top name ≡ true
  pub found : find (λ s. answers_to name (label_of s)) a.subs ≡ Some sub
  pub passes : level_passes sub [] nothing_held rest false ≡ true

pub required : (b x : Bool) → b ≡ true → (not b || x) ≡ true → x ≡ true
required true x t e = e
required false x t e = absurd cc

sub_enters : (a : App) (name : Text) (rest : List Text) (o : Option Shape) → find (λ s. answers_to name (label_of s)) a.subs ≡ o → no_help a.top name ≡ true
    → is_some (option_map (λ s. rows_at s rest) o) ≡ true → option_map_or (λ s. level_passes s [] nothing_held rest false) o true ≡ true
    → Enters a (Some (name, rest))
sub_enters a name rest None found called there passes = absurd cc
sub_enters a name rest (Some sub) found called there passes =
    record { name = name; rest = rest; sub = sub; stop_is = refl; called = called; found = found; passes = passes }

stop_enters : (a : App) (stop : Option (Text × List Text)) → stops_well a.top stop → is_some (entered a stop) ≡ true → entered_passes a stop ≡ true
    → Enters a stop
stop_enters a None well there passes = absurd cc
stop_enters a (Some p) well there passes = sub_enters a p.0 p.1 (find (λ s. answers_to p.0 (label_of s)) a.subs) refl well there passes

pub enters : (a : App) (words : List Text) → a.top.subcommand_required ≡ true → built_takes a nothing_held words ≡ true
    → Enters a (stop_after a.top.rules (names_of a) words)
enters a words needed e =
    let stop = stop_after a.top.rules (names_of a) words in
    let p = both (entered_passes a stop) _ e in
    let walks = both (walk_passes a.top (names_of a) (walk_from nothing_held) words) _ p.1 in
    let valid = level_is_valid a.top (names_of a) words (is_some (entered a stop)) p.1 in
    let there = both (not a.top.subcommand_required || is_some (entered a stop)) _ (both _ _ valid).1 in
    stop_enters a stop (walk_stops a.top (names_of a) (walk_from nothing_held) words walks.0 refl) (required _ _ needed there.0) p.0

entered_at : (a : App) (name : Text) (rest : List Text) (sub : Shape) (stop : Option (Text × List Text)) → stop ≡ Some (name, rest)
    → find (λ s. answers_to name (label_of s)) a.subs ≡ Some sub → entered a stop ≡ Some (rows_at sub rest)
entered_at a name rest sub stop is found = ap (entered a) is ∙ ap (λ o. option_map (λ s. rows_at s rest) o) found

pub enters_rows : (a : App) (stop : Option (Text × List Text)) (e : Enters a stop) → entered a stop ≡ Some (rows_at e.sub e.rest)
enters_rows a stop e = entered_at a e.name e.rest e.sub stop e.stop_is e.found
