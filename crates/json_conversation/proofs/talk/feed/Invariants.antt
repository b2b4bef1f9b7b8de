use Rattle.std.proofs.Common.{◌≡◌, ℕ, false, ◌++◌, List, take}
use Rattle.pickle_io.specs.Device.{Told, Wrote}
use Rattle.pickle_session.specs.Allowed.{SessionState}
use Rattle.json_conversation.specs.Inside.Progress.{SoFar}
use Rattle.pickle_script.proofs.Flushes.{has_newline}
use Rattle.json_conversation.proofs.talk.feed.Given as goal

abbrev pub invariant-loop-byte : goal.invariant-loop-byte
invariant-loop-byte g l = record {
  fed : (s : SessionState) (old : Told) (given : List ℕ) → SoFar s old given l.fn.session (g.K.Sink.told l.fn.page) l.fn.pending
      → SoFar s old (given ++ take l.byte-index l.bytes) l.session (g.K.Sink.told l.page) l.pending;
  writes : (text : List ℕ) × Wrote (g.K.Sink.told l.fn.page) (g.K.Sink.told l.page) text;
  calm : has_newline (take l.byte-index l.bytes) ≡ false → l.page ≡ l.fn.page;
}
