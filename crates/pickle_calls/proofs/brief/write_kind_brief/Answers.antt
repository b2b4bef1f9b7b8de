-- Objects that are shown by their numbers.
use Rattle.std.proofs.Common.{◌≡◌, ℕ, ℤ, List, refl}
use Rattle.pickle_ops.specs.declared.kind_ref.KindRef.{KindRef}
use Rattle.pickle_ops.specs.declared.kind_ref.KindRef.TheVariants as seen
use Rattle.pickle_ops.specs.declared.kind_ref.TextsRef.{TextsRef}
use Rattle.pickle_ops.specs.Object.{Object}
use Rattle.pickle_ops.specs.KindRef.{kind_view}
use Rattle.pickle_calls.specs.declared.naming.Naming.{Naming}
use Rattle.pickle_text.specs.Words.{id_text}
use Rattle.pickle_calls.specs.Brief.{kind_brief}
use Rattle.pickle_calls.proofs.brief.write_kind_brief.Goals as goal

by_number : (m : Naming) (heap : List Object) (id : ℕ) (k : KindRef) (parts : List ℕ)
    → (k ≡ seen.None → ⊥) → (k ≡ seen.True → ⊥) → (k ≡ seen.False → ⊥) → ((x : ℤ) → k ≡ seen.Int x → ⊥) → ((x : _) → k ≡ seen.Long x → ⊥)
    → ((x : _) → k ≡ seen.IntLine x → ⊥) → ((x : _) → k ≡ seen.LongLine x → ⊥) → ((x : _) → k ≡ seen.FloatLine x → ⊥) → ((x : _) → k ≡ seen.Float x → ⊥)
    → ((x : _) → k ≡ seen.LegacyString x → ⊥) → ((x : _) → k ≡ seen.LegacyLine x → ⊥) → ((x : _) → k ≡ seen.Text x → ⊥) → ((x : _) → k ≡ seen.TextLine x → ⊥)
    → ((x : _) → k ≡ seen.Bytes x → ⊥) → ((x : _) → k ≡ seen.ByteArray x → ⊥) → ((x : TextsRef) → k ≡ seen.Global x → ⊥) → (k ≡ seen.StackGlobal → ⊥) → ((x : ℤ) → k ≡ seen.Ext x → ⊥)
    → id_text id ≡ kind_brief m heap id (kind_view k) parts
unfolding kind_brief
by_number m heap id seen.None parts n t f i l il ll fl fo ls lp tx tl b ba g s e = absurd (n refl)
by_number m heap id seen.True parts n t f i l il ll fl fo ls lp tx tl b ba g s e = absurd (t refl)
by_number m heap id seen.False parts n t f i l il ll fl fo ls lp tx tl b ba g s e = absurd (f refl)
by_number m heap id (seen.Int x) parts n t f i l il ll fl fo ls lp tx tl b ba g s e = absurd (i x refl)
by_number m heap id (seen.Long x) parts n t f i l il ll fl fo ls lp tx tl b ba g s e = absurd (l x refl)
by_number m heap id (seen.IntLine x) parts n t f i l il ll fl fo ls lp tx tl b ba g s e = absurd (il x refl)
by_number m heap id (seen.LongLine x) parts n t f i l il ll fl fo ls lp tx tl b ba g s e = absurd (ll x refl)
by_number m heap id (seen.FloatLine x) parts n t f i l il ll fl fo ls lp tx tl b ba g s e = absurd (fl x refl)
by_number m heap id (seen.Float x) parts n t f i l il ll fl fo ls lp tx tl b ba g s e = absurd (fo x refl)
by_number m heap id (seen.LegacyString x) parts n t f i l il ll fl fo ls lp tx tl b ba g s e = absurd (ls x refl)
by_number m heap id (seen.LegacyLine x) parts n t f i l il ll fl fo ls lp tx tl b ba g s e = absurd (lp x refl)
by_number m heap id (seen.Text x) parts n t f i l il ll fl fo ls lp tx tl b ba g s e = absurd (tx x refl)
by_number m heap id (seen.TextLine x) parts n t f i l il ll fl fo ls lp tx tl b ba g s e = absurd (tl x refl)
by_number m heap id (seen.Bytes x) parts n t f i l il ll fl fo ls lp tx tl b ba g s e = absurd (b x refl)
by_number m heap id (seen.ByteArray x) parts n t f i l il ll fl fo ls lp tx tl b ba g s e = absurd (ba x refl)
by_number m heap id (seen.Global x) parts n t f i l il ll fl fo ls lp tx tl b ba g s e = absurd (g x refl)
by_number m heap id seen.StackGlobal parts n t f i l il ll fl fo ls lp tx tl b ba g s e = absurd (s refl)
by_number m heap id (seen.Ext x) parts n t f i l il ll fl fo ls lp tx tl b ba g s e = absurd (e x refl)
by_number m heap id _ parts n t f i l il ll fl fo ls lp tx tl b ba g s e = refl

pub returns-in_default : goal.returns-in_default
returns-in_default g c =
    let d = c.in_default in
    rw (← by_number c.args.naming (g.M.Inspect.state c.args.machine.now).heap c.args.id c.args.kind c.args.parts.now
    d.not-None d.not-True d.not-False d.not-Int d.not-Long d.not-IntLine d.not-LongLine d.not-FloatLine d.not-Float d.not-LegacyString d.not-LegacyLine d.not-Text
    d.not-TextLine d.not-Bytes d.not-ByteArray d.not-Global d.not-StackGlobal d.not-Ext) (rw c.from.ensures at c.write_id.ensures)
