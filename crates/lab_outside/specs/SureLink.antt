-- What a link that never fails stands for.
use Rattle.std.specs.Prelude.{ℕ, List, map, Option, option_map}
use Rattle.lab_outside.specs.declared.sure_link.SureLink.{SureLink}
use Rattle.lab_outside.specs.Connection.{Connection}
use Rattle.lab_outside.specs.SureConnection.{connection_of, connection_left}

-- what each connection that is still to come will give
abbrev pub coming_of : SureLink → List (List ℕ)
coming_of link = map connection_left link.coming.items

-- the connection of now, if there is one
abbrev pub present_of : SureLink → Option Connection
present_of link = option_map connection_of link.present

-- the connections that there were
abbrev pub past_of : SureLink → List Connection
past_of link = map connection_of link.past.items
