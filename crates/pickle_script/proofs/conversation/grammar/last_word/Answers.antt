-- A word that is no digits, and one that is the last, or not.
use Rattle.std.proofs.Common.{◌≡◌, arith, refl, true, false}
use Rattle.pickle_script.specs.Inside.Words.{is_hex}
use Rattle.pickle_script.proofs.HexWords.{hex-bytes, no_hex}
use Rattle.pickle_script.proofs.conversation.grammar.last_word.Goals as goal

pub returns-then-not-is_hex : goal.returns-then-not-is_hex
returns-then-not-is_hex c =
    let h : false ≡ is_hex c.args.word.now = grind (arith, c.is_hex.ensures, c.if-not-is_hex.true) in
    rw (no_hex c.args.word.now h) refl

pub returns-in-None : goal.returns-in-None
returns-in-None c =
    let h : true ≡ is_hex c.args.word.now = grind (arith, c.is_hex.ensures, c.if-not-is_hex.false) in
    let b = hex-bytes c.args.word.now h in
    (b.0, rw (b.1, c.in-None.ensures) refl, b.1)

pub returns-in-Some : goal.returns-in-Some
returns-in-Some c =
    let h : true ≡ is_hex c.args.word.now = grind (arith, c.is_hex.ensures, c.if-not-is_hex.false) in
    let b = hex-bytes c.args.word.now h in
    rw (b.1, c.in-Some.ensures) refl
