-- What was read, as it is written: sizes and events with its strings resolved; it has as many actions. Assumes nothing.
use Rattle.std.specs.Prelude.{ℕ, List}
use Rattle.layout.specs.Tree.{ActionOf, ActionsOf}
use Rattle.layout.specs.Read.{Text}
use Rattle.layout.specs.Strings.{map_action, map_body}
use Rattle.layout.specs.Write.{size, body_size, Position, Event, trace, trace_body}
use Rattle.layout.specs.Pack.{spelling}

-- of an action, written from a position on
abbrev pub action_size : ActionOf Text ℕ → ℕ
action_size a = size (map_action spelling a)

abbrev pub action_trace : ActionOf Text ℕ → Position → List Event
action_trace a s = trace (map_action spelling a) s

-- of a body
abbrev pub body_length : ActionsOf Text ℕ → ℕ
body_length x = body_size (map_body spelling x)

abbrev pub body_events : ActionsOf Text ℕ → Position → List Event
body_events x s = trace_body (map_body spelling x) s
