-- Devices on trial: their bytes in memory, the most bytes of a call, how many calls they still answer before they fail
-- at each, and how often they have failed.
use Rattle.std.specs.Prelude.{ℕ, List, Some}
use Rattle.pickle_io.specs.Device.{Told}
use Rattle.test_equipment.specs.declared.drip.Drip.{Drip}
use Rattle.test_equipment.specs.declared.sip.Sip.{Sip}

-- the bytes that it has yet to give
abbrev pub drip_rest : Drip → List ℕ
drip_rest d = d.rest.now

abbrev pub drip_most : Drip → ℕ
drip_most d = d.most

abbrev pub drip_calls : Drip → ℕ
drip_calls d = d.calls

abbrev pub drip_failures : Drip → ℕ
drip_failures d = d.failures

-- the bytes that it has taken
abbrev pub sip_taken : Sip → List ℕ
sip_taken s = s.taken.items

abbrev pub sip_most : Sip → ℕ
sip_most s = s.most

abbrev pub sip_calls : Sip → ℕ
sip_calls s = s.calls

abbrev pub sip_failures : Sip → ℕ
sip_failures s = s.failures

-- its bytes are reported, and it holds none back
abbrev pub sip_told : Sip → Told
sip_told s = record { taken = Some (sip_taken s); held = 0; failures = sip_failures s }
