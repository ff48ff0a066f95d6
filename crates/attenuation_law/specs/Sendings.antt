-- The attenuation law: how many sendings bring a word along a way.
use Rattle.std.specs.Prelude.{ℕ, ◌+◌, ◌-◌, ◌*◌, ◌/◌, List, Option}
use Rattle.law.specs.Costs.{as_cost}
use Rattle.law.specs.Hops.{power_of}
use Rattle.record.specs.declared.rows.NeighbourRow.{NeighbourRow}

-- of 256 sendings over the link from the sender, those that are lost
abbrev pub attenuation : List NeighbourRow → ℕ → ℕ
attenuation near sender = 255 - power_of near sender

-- a try takes the sendings before the link and one over it; of 256 tries all but the lost ones come through
abbrev pub sendings : ℕ → ℕ → ℕ
sendings c lost = (c + 1) * 256 / (256 - lost)

abbrev pub attenuated : ℕ → ℕ → Option ℕ
attenuated c lost = as_cost (sendings c lost)
