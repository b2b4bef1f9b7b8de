-- Texts that are written piece by piece.
use Rattle.std.proofs.Common.{◌≡◌, ℕ, List, ◌++◌, sym, ap, ◌∙◌, append_assoc}
use Rattle.pickle_io.specs.Device.{Told, Wrote, Broke, WroteAllBut}
use Rattle.pickle_io.proofs.Devices.{Wrote-trans, Broke-after, Broke-more}

pub WroteAllBut-same : (a b : Told) (text rest more : List ℕ) → WroteAllBut a b text rest → rest ≡ more → WroteAllBut a b text more
WroteAllBut-same a b text rest more w e = record { front = w.front; parts = w.parts ∙ ap (λ (t : List ℕ). w.front ++ t) e; wrote = w.wrote }

pub WroteAllBut-piece : (a b c : Told) (text rest piece more : List ℕ) → WroteAllBut a b text rest → rest ≡ piece ++ more → Wrote b c piece → WroteAllBut a c text more
WroteAllBut-piece a b c text rest piece more w e p = record {
  front = w.front ++ piece;
  parts = w.parts ∙ ap (λ (t : List ℕ). w.front ++ t) e ∙ sym (append_assoc w.front piece more);
  wrote = Wrote-trans a b c w.front piece w.wrote p;
}

pub WroteAllBut-broke : (a b c : Told) (text rest piece more : List ℕ) → WroteAllBut a b text rest → rest ≡ piece ++ more → Broke b c piece → Broke a c text
WroteAllBut-broke a b c text rest piece more w e p = rw (w.parts, e) (Broke-after a b c w.front (piece ++ more) w.wrote (Broke-more b c piece more p))
