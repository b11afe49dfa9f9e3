-- Document 02, Card 1: the families. Of a frame, each row is a slot, and in it each possibility a list of fields; several empty ones make it likely that
-- nothing is drawn.
-- Assumes nothing.
use Rattle.std.specs.Prelude.{List, [], ◌∷◌}
use Rattle.grammar.specs.Fragments.{Family, frame, slot, group, scalar, optional_scalar, size, count, elemsize, fixed, fixedenum, reserved, flag, typedef, optional_typedef, array, optional_array, payload, body, padding, checksum, packet, struct, enum, checksum_type, custom}

-- one packet with a few fields
unfoldable pub beacon : Family
beacon =
    record {
      targets = "Beacon" ∷ [];
      types = [];
      frames =
          frame (packet "Beacon" "-")
          (slot ((scalar "kind" "8" ∷ [])
          ∷ (scalar "kind" "4" ∷ scalar "version" "4" ∷ [])
          ∷ (fixed "8" "165" ∷ [])
          ∷ (flag "lit" ∷ flag "on_mains" ∷ reserved "6" ∷ [])
          ∷ [])
          ∷ slot ([]
          ∷ []
          ∷ (scalar "amps" "16" ∷ [])
          ∷ (scalar "amps" "12" ∷ reserved "4" ∷ [])
          ∷ (scalar "amps" "24" ∷ [])
          ∷ (scalar "millivolts" "32" ∷ [])
          ∷ (scalar "amps" "10" ∷ flag "alarm" ∷ scalar "fault" "5" ∷ [])
          ∷ [])
          ∷ slot ([]
          ∷ []
          ∷ (payload "-" ∷ [])
          ∷ (array "name" "8" "-" "-" "6" ∷ [])
          ∷ (scalar "serial" "64" ∷ [])
          ∷ (body ∷ [])
          ∷ (scalar "hours" "13" ∷ reserved "3" ∷ [])
          ∷ [])
          ∷ [])
          ∷ [];
    }

-- enums, bit fields of many widths, optional scalars
unfoldable pub lamp : Family
lamp =
    record {
      targets = "Lamp" ∷ [];
      types =
          group (enum "LampState" "4" "0" "0") []
          ∷ group (enum "Colour" "3" "1" "0") []
          ∷ group (enum "Phase" "2" "0" "1") []
          ∷ [];
      frames =
          frame (packet "Lamp" "-")
          (slot ((fixed "16" "43605" ∷ [])
          ∷ (fixedenum "LampState" "STEADY" ∷ fixed "4" "9" ∷ [])
          ∷ (scalar "lamp_id" "8" ∷ [])
          ∷ (scalar "lamp_id" "16" ∷ [])
          ∷ [])
          ∷ slot ((typedef "state" "LampState" ∷ typedef "colour" "Colour" ∷ flag "lit" ∷ [])
          ∷ (typedef "colour" "Colour" ∷ typedef "phase" "Phase" ∷ flag "lit" ∷ flag "on_mains" ∷ flag "covered" ∷ [])
          ∷ (flag "lit" ∷ scalar "level" "7" ∷ [])
          ∷ [])
          ∷ slot ([]
          ∷ (scalar "amps" "12" ∷ reserved "4" ∷ [])
          ∷ (scalar "amps" "12" ∷ scalar "volts" "20" ∷ [])
          ∷ (scalar "amps" "10" ∷ scalar "volts" "10" ∷ scalar "watts" "12" ∷ [])
          ∷ (scalar "amps" "40" ∷ [])
          ∷ [])
          ∷ slot ([]
          ∷ (reserved "8" ∷ [])
          ∷ (scalar "temperature" "11" ∷ typedef "mains" "Phase" ∷ scalar "fans" "3" ∷ [])
          ∷ (reserved "24" ∷ typedef "last" "LampState" ∷ reserved "4" ∷ [])
          ∷ [])
          ∷ slot ([]
          ∷ (optional_scalar "delay" "16" "lit" "1" ∷ [])
          ∷ (optional_scalar "flashes" "8" "lit" "0" ∷ [])
          ∷ (optional_scalar "dimmer" "24" "lit" "1" ∷ optional_scalar "ramp" "8" "lit" "1" ∷ [])
          ∷ [])
          ∷ slot ([]
          ∷ []
          ∷ (payload "-" ∷ [])
          ∷ (size "_payload_" "8" ∷ payload "-" ∷ [])
          ∷ (array "serial" "8" "-" "-" "12" ∷ [])
          ∷ (scalar "crc" "16" ∷ [])
          ∷ (scalar "spare" "8" ∷ scalar "unfinished" "4" ∷ [])
          ∷ (scalar "drift" "60" ∷ scalar "jitter" "12" ∷ [])
          ∷ [])
          ∷ [])
          ∷ [];
    }

-- a frame and two packets that extend it
unfoldable pub status : Family
status =
    record {
      targets = "Status" ∷ "Status" ∷ "Alarm" ∷ "Frame" ∷ "Level" ∷ [];
      types =
          group (enum "State" "8" "0" "0") []
          ∷ group (enum "Cause" "5" "1" "0") []
          ∷ group (struct "Level" "-") (scalar "volts" "16" ∷ scalar "amps" "16" ∷ [])
          ∷ group (struct "Stamp" "-") (scalar "seconds" "32" ∷ scalar "millis" "10" ∷ reserved "6" ∷ [])
          ∷ group (struct "Trace" "Level") (size "points" "8" ∷ array "points" "16" "-" "-" "-" ∷ [])
          ∷ [];
      frames =
          frame (packet "Frame" "-")
          (slot ((scalar "station" "16" ∷ []) ∷ (scalar "station" "12" ∷ scalar "channel" "4" ∷ []) ∷ (fixed "8" "126" ∷ scalar "station" "8" ∷ []) ∷ [])
          ∷ slot ((scalar "sequence" "8" ∷ []) ∷ (scalar "sequence" "16" ∷ []) ∷ (reserved "2" ∷ scalar "sequence" "14" ∷ []) ∷ [])
          ∷ slot ((size "_payload_" "8" ∷ payload "-" ∷ []) ∷ (size "_payload_" "16" ∷ payload "+2" ∷ []) ∷ (payload "-" ∷ []) ∷ (body ∷ []) ∷ [])
          ∷ [])
          ∷ frame (packet "Status" "Frame")
          (slot ((typedef "state" "State" ∷ []) ∷ (typedef "state" "State" ∷ typedef "before" "State" ∷ []) ∷ (fixedenum "State" "READY" ∷ []) ∷ [])
          ∷ slot ((flag "dark" ∷ flag "stale" ∷ flag "remote" ∷ typedef "cause" "Cause" ∷ [])
          ∷ (flag "dark" ∷ scalar "retries" "7" ∷ [])
          ∷ (flag "dark" ∷ flag "stale" ∷ scalar "retries" "6" ∷ [])
          ∷ [])
          ∷ slot ([]
          ∷ (typedef "level" "Level" ∷ [])
          ∷ (typedef "level" "Level" ∷ typedef "highest" "Level" ∷ [])
          ∷ (typedef "at" "Stamp" ∷ [])
          ∷ (typedef "trace" "Trace" ∷ [])
          ∷ [])
          ∷ slot ([]
          ∷ []
          ∷ (optional_typedef "since" "Stamp" "dark" "1" ∷ [])
          ∷ (optional_typedef "reason" "State" "dark" "1" ∷ [])
          ∷ (optional_scalar "minutes" "16" "dark" "0" ∷ [])
          ∷ (optional_typedef "extra" "Trace" "dark" "1" ∷ [])
          ∷ [])
          ∷ slot ([]
          ∷ []
          ∷ (array "levels" "-" "Level" "-" "3" ∷ [])
          ∷ (count "stamps" "8" ∷ array "stamps" "-" "Stamp" "-" "-" ∷ [])
          ∷ (size "states" "8" ∷ array "states" "-" "State" "-" "-" ∷ [])
          ∷ (flag "open_end" ∷ scalar "unused" "3" ∷ [])
          ∷ [])
          ∷ [])
          ∷ frame (packet "Alarm" "Frame")
          (slot ((scalar "code" "16" ∷ []) ∷ (scalar "code" "9" ∷ scalar "severity" "7" ∷ []) ∷ (fixed "4" "5" ∷ scalar "code" "12" ∷ []) ∷ [])
          ∷ slot ([]
          ∷ (typedef "raised" "Stamp" ∷ [])
          ∷ (typedef "level" "Level" ∷ [])
          ∷ (array "history" "8" "-" "-" "4" ∷ scalar "half" "4" ∷ typedef "level" "Level" ∷ [])
          ∷ [])
          ∷ slot ([]
          ∷ (payload "-" ∷ [])
          ∷ (body ∷ [])
          ∷ (array "words" "16" "-" "-" "-" ∷ [])
          ∷ (payload "-" ∷ count "notes" "8" ∷ array "notes" "8" "-" "-" "-" ∷ [])
          ∷ [])
          ∷ [])
          ∷ [];
    }

-- every shape of an array
unfoldable pub log : Family
log =
    record {
      targets = "Log" ∷ "Log" ∷ "Log" ∷ "Digest" ∷ [];
      types =
          group (struct "Sample" "-") (scalar "volts" "12" ∷ scalar "amps" "12" ∷ [])
          ∷ group (struct "Text" "-") (size "bytes" "8" ∷ array "bytes" "8" "-" "-" "-" ∷ [])
          ∷ group (struct "Rest" "-") (array "tail" "8" "-" "-" "-" ∷ [])
          ∷ group (custom "Opaque" "-") []
          ∷ group (custom "Fixed" "48") []
          ∷ group (enum "Grade" "8" "0" "0") []
          ∷ [];
      frames =
          frame (packet "Log" "-")
          (slot ((scalar "number" "16" ∷ [])
          ∷ (scalar "number" "8" ∷ reserved "8" ∷ [])
          ∷ (scalar "day" "9" ∷ scalar "minute" "11" ∷ reserved "4" ∷ [])
          ∷ [])
          ∷ slot ((array "samples" "-" "Sample" "-" "4" ∷ [])
          ∷ (count "samples" "8" ∷ array "samples" "-" "Sample" "-" "-" ∷ [])
          ∷ (size "samples" "16" ∷ array "samples" "-" "Sample" "-" "-" ∷ [])
          ∷ (array "samples" "16" "-" "-" "8" ∷ [])
          ∷ (count "samples" "16" ∷ array "samples" "24" "-" "-" "-" ∷ [])
          ∷ (size "samples" "8" ∷ array "samples" "8" "-" "-" "-" ∷ [])
          ∷ (size "samples" "8" ∷ array "samples" "8" "-" "+1" "-" ∷ [])
          ∷ (array "grades" "-" "Grade" "-" "3" ∷ [])
          ∷ [])
          ∷ slot ((array "notes" "-" "Text" "-" "2" ∷ [])
          ∷ (count "notes" "8" ∷ array "notes" "-" "Text" "-" "-" ∷ [])
          ∷ (size "notes" "16" ∷ array "notes" "-" "Text" "-" "-" ∷ [])
          ∷ (array "notes" "-" "Text" "-" "-" ∷ [])
          ∷ (elemsize "notes" "8" ∷ array "notes" "-" "Opaque" "-" "3" ∷ [])
          ∷ (elemsize "notes" "8" ∷ count "notes" "8" ∷ array "notes" "-" "Opaque" "-" "-" ∷ [])
          ∷ (elemsize "notes" "8" ∷ size "notes" "16" ∷ array "notes" "-" "Opaque" "-" "-" ∷ [])
          ∷ (elemsize "notes" "8" ∷ array "notes" "-" "Opaque" "-" "-" ∷ [])
          ∷ (elemsize "notes" "16" ∷ array "notes" "-" "Rest" "-" "2" ∷ [])
          ∷ [])
          ∷ slot ([]
          ∷ []
          ∷ []
          ∷ (array "rest" "-" "Sample" "-" "-" ∷ [])
          ∷ (array "rest" "8" "-" "-" "-" ∷ [])
          ∷ (array "rest" "-" "Grade" "-" "-" ∷ [])
          ∷ (scalar "check" "16" ∷ [])
          ∷ (typedef "seal" "Fixed" ∷ [])
          ∷ (flag "more" ∷ reserved "7" ∷ optional_array "later" "8" "-" "-" "2" "more" "1" ∷ [])
          ∷ [])
          ∷ [])
          ∷ frame (packet "Digest" "-")
          (slot ((count "sums" "8" ∷ array "sums" "32" "-" "-" "-" ∷ [])
          ∷ (size "sums" "8" ∷ array "sums" "-" "Fixed" "-" "-" ∷ [])
          ∷ (array "sums" "-" "Fixed" "-" "5" ∷ [])
          ∷ [])
          ∷ slot ((elemsize "texts" "8" ∷ array "texts" "-" "Text" "-" "4" ∷ [])
          ∷ (elemsize "texts" "8" ∷ count "texts" "8" ∷ array "texts" "-" "Text" "-" "-" ∷ [])
          ∷ (elemsize "texts" "8" ∷ size "texts" "16" ∷ array "texts" "-" "Text" "-" "-" ∷ [])
          ∷ (elemsize "texts" "8" ∷ array "texts" "-" "Text" "-" "-" ∷ [])
          ∷ (array "texts" "-" "Opaque" "-" "2" ∷ [])
          ∷ (count "texts" "8" ∷ array "texts" "-" "Opaque" "-" "-" ∷ [])
          ∷ (size "texts" "16" ∷ array "texts" "-" "Opaque" "-" "-" ∷ [])
          ∷ (array "texts" "-" "Opaque" "-" "-" ∷ [])
          ∷ [])
          ∷ slot ([] ∷ (payload "-" ∷ []) ∷ (array "over" "-" "Rest" "-" "-" ∷ []) ∷ [])
          ∷ [])
          ∷ [];
    }

-- fixed values, checksums, paddings, payloads before other fields
unfoldable pub relay : Family
relay =
    record {
      targets = "Relay" ∷ "Relay" ∷ "Tunnel" ∷ [];
      types =
          group (enum "Port" "16" "0" "0") []
          ∷ group (enum "Route" "6" "1" "0") []
          ∷ group (checksum_type "Sum16" "16") []
          ∷ group (checksum_type "Crc32" "32") []
          ∷ group (custom "Key" "128") []
          ∷ group (struct "Address" "-") (scalar "net" "24" ∷ scalar "node" "8" ∷ [])
          ∷ group (struct "Hop" "-") (typedef "to" "Address" ∷ typedef "via" "Route" ∷ reserved "2" ∷ [])
          ∷ [];
      frames =
          frame (packet "Relay" "-")
          (slot ((fixed "32" "3735928559" ∷ []) ∷ (fixed "8" "85" ∷ fixed "8" "170" ∷ []) ∷ (fixedenum "Port" "BRIDGE" ∷ []) ∷ [])
          ∷ slot ((checksum "crc" ∷ typedef "source" "Address" ∷ [])
          ∷ (typedef "source" "Address" ∷ typedef "target" "Address" ∷ [])
          ∷ (typedef "key" "Key" ∷ [])
          ∷ (typedef "port" "Port" ∷ [])
          ∷ [])
          ∷ slot ((typedef "route" "Route" ∷ scalar "hops" "2" ∷ [])
          ∷ (scalar "hops" "8" ∷ [])
          ∷ (flag "direct" ∷ reserved "1" ∷ typedef "route" "Route" ∷ [])
          ∷ (scalar "ttl" "5" ∷ scalar "class_of" "3" ∷ [])
          ∷ [])
          ∷ slot ((array "path" "-" "Hop" "-" "2" ∷ padding "16" ∷ [])
          ∷ (count "path" "8" ∷ array "path" "-" "Hop" "-" "-" ∷ padding "40" ∷ [])
          ∷ (size "path" "8" ∷ array "path" "-" "Address" "-" "-" ∷ padding "24" ∷ [])
          ∷ (array "label" "8" "-" "-" "10" ∷ padding "12" ∷ [])
          ∷ [])
          ∷ slot ((payload "-" ∷ typedef "crc" "Crc32" ∷ [])
          ∷ (payload "-" ∷ typedef "crc" "Sum16" ∷ [])
          ∷ (size "_payload_" "16" ∷ payload "-4" ∷ typedef "crc" "Crc32" ∷ [])
          ∷ (size "_payload_" "8" ∷ payload "-" ∷ reserved "16" ∷ [])
          ∷ (body ∷ scalar "crc" "16" ∷ [])
          ∷ (size "_body_" "8" ∷ body ∷ [])
          ∷ (payload "-" ∷ array "trailer" "8" "-" "-" "4" ∷ padding "4" ∷ [])
          ∷ (payload "-" ∷ count "trailer" "8" ∷ array "trailer" "8" "-" "-" "-" ∷ [])
          ∷ (payload "-" ∷ optional_scalar "late" "16" "direct" "1" ∷ [])
          ∷ (scalar "lone" "4" ∷ body ∷ [])
          ∷ [])
          ∷ [])
          ∷ frame (packet "Tunnel" "Relay")
          (slot ((scalar "tunnel" "16" ∷ []) ∷ (scalar "tunnel" "7" ∷ flag "sealed" ∷ []) ∷ [])
          ∷ slot ([] ∷ (typedef "inner" "Hop" ∷ []) ∷ (array "inner" "-" "Hop" "-" "3" ∷ []) ∷ [])
          ∷ slot ((payload "-" ∷ []) ∷ (size "_payload_" "24" ∷ payload "-" ∷ []) ∷ (body ∷ []) ∷ [])
          ∷ [])
          ∷ [];
    }

-- elements whose size is sent, optional fields
unfoldable pub meter : Family
meter =
    record {
      targets = "Meter" ∷ "Meter" ∷ "Meter" ∷ "Tariff" ∷ [];
      types =
          group (enum "Unit" "8" "0" "0") []
          ∷ group (enum "Quality" "2" "0" "1") []
          ∷ group (enum "Rate" "12" "1" "0") []
          ∷ group (struct "Counter" "-") (scalar "value" "40" ∷ typedef "unit" "Unit" ∷ [])
          ∷ group (struct "Band" "Counter") (scalar "from" "16" ∷ scalar "to" "16" ∷ [])
          ∷ group (struct "Entry" "-") (scalar "key" "8" ∷ size "value" "8" ∷ array "value" "8" "-" "-" "-" ∷ [])
          ∷ [];
      frames =
          frame (struct "Tariff" "-")
          (slot ((scalar "valid" "32" ∷ []) ∷ (scalar "valid" "20" ∷ typedef "rate" "Rate" ∷ []) ∷ [])
          ∷ slot ((count "bands" "8" ∷ array "bands" "-" "Band" "-" "-" ∷ [])
          ∷ (array "bands" "-" "Band" "-" "4" ∷ [])
          ∷ (size "bands" "16" ∷ array "bands" "-" "Band" "-" "-" ∷ [])
          ∷ [])
          ∷ slot ([]
          ∷ (count "names" "8" ∷ elemsize "names" "8" ∷ array "names" "-" "Entry" "-" "-" ∷ [])
          ∷ (size "names" "16" ∷ elemsize "names" "8" ∷ array "names" "-" "Entry" "-" "-" ∷ [])
          ∷ (elemsize "names" "16" ∷ array "names" "-" "Entry" "-" "2" ∷ [])
          ∷ [])
          ∷ [])
          ∷ frame (packet "Meter" "-")
          (slot ((scalar "meter" "48" ∷ [])
          ∷ (scalar "meter" "32" ∷ scalar "part_no" "32" ∷ [])
          ∷ (scalar "meter" "56" ∷ [])
          ∷ (scalar "meter" "20" ∷ scalar "series" "12" ∷ [])
          ∷ [])
          ∷ slot ((typedef "total" "Counter" ∷ [])
          ∷ (typedef "total" "Counter" ∷ typedef "peak" "Counter" ∷ [])
          ∷ (typedef "unit" "Unit" ∷ scalar "total" "56" ∷ [])
          ∷ [])
          ∷ slot ((typedef "quality" "Quality" ∷ scalar "age" "6" ∷ [])
          ∷ (typedef "quality" "Quality" ∷ typedef "trend" "Quality" ∷ scalar "age" "4" ∷ [])
          ∷ (scalar "age" "3" ∷ typedef "quality" "Quality" ∷ scalar "gap" "11" ∷ [])
          ∷ [])
          ∷ slot ([]
          ∷ (flag "night" ∷ reserved "15" ∷ [])
          ∷ (flag "night" ∷ scalar "share" "15" ∷ [])
          ∷ (flag "night" ∷ flag "dry" ∷ scalar "share" "14" ∷ [])
          ∷ [])
          ∷ slot ([]
          ∷ (optional_typedef "unit" "Unit" "night" "1" ∷ [])
          ∷ (optional_typedef "extra" "Counter" "night" "1" ∷ [])
          ∷ (optional_scalar "limit" "32" "night" "0" ∷ [])
          ∷ (optional_typedef "own" "Entry" "night" "1" ∷ [])
          ∷ [])
          ∷ slot ((count "entries" "8" ∷ array "entries" "-" "Entry" "-" "-" ∷ [])
          ∷ (size "entries" "16" ∷ array "entries" "-" "Entry" "-" "-" ∷ [])
          ∷ (array "entries" "-" "Entry" "-" "3" ∷ [])
          ∷ (elemsize "entries" "8" ∷ count "entries" "8" ∷ array "entries" "-" "Entry" "-" "-" ∷ [])
          ∷ (elemsize "entries" "8" ∷ size "entries" "8" ∷ array "entries" "-" "Entry" "-" "-" ∷ [])
          ∷ (count "entries" "32" ∷ array "entries" "-" "Counter" "-" "-" ∷ [])
          ∷ []
          ∷ [])
          ∷ slot ([]
          ∷ []
          ∷ (typedef "tariff" "Counter" ∷ array "spread" "16" "-" "-" "12" ∷ [])
          ∷ (array "rest" "-" "Entry" "-" "-" ∷ [])
          ∷ (elemsize "rest" "8" ∷ array "rest" "-" "Entry" "-" "-" ∷ [])
          ∷ (payload "-" ∷ [])
          ∷ (scalar "longest" "63" ∷ scalar "longer" "9" ∷ [])
          ∷ (optional_array "flagged" "-" "Unit" "-" "2" "night" "1" ∷ [])
          ∷ [])
          ∷ [])
          ∷ [];
    }

-- a large packet
unfoldable pub station : Family
station =
    record {
      targets = "Station" ∷ "Station" ∷ "Station" ∷ "Panel" ∷ "Service" ∷ "Berth" ∷ [];
      types =
          group (enum "Health" "4" "0" "0") []
          ∷ group (enum "Role" "4" "0" "0") []
          ∷ group (enum "Sea" "8" "1" "0") []
          ∷ group (checksum_type "Crc16" "16") []
          ∷ group (custom "Position" "64") []
          ∷ group (custom "Remark" "-") []
          ∷ group (struct "Cell" "-") (scalar "volts" "12" ∷ scalar "charge" "7" ∷ flag "weak" ∷ reserved "4" ∷ [])
          ∷ group (struct "Wind" "-") (scalar "speed" "10" ∷ scalar "angle" "9" ∷ reserved "5" ∷ [])
          ∷ group (struct "Berth" "-") (typedef "place" "Position" ∷ typedef "health" "Health" ∷ typedef "role" "Role" ∷ [])
          ∷ group (struct "Report" "Wind") (size "remark" "8" ∷ array "remark" "8" "-" "-" "-" ∷ [])
          ∷ [];
      frames =
          frame (packet "Panel" "-")
          (slot ((scalar "panel" "8" ∷ typedef "cell" "Cell" ∷ []) ∷ (fixed "8" "112" ∷ array "cells" "-" "Cell" "-" "6" ∷ []) ∷ [])
          ∷ slot ((flag "lamp_on"
          ∷ flag "lamp_spare"
          ∷ flag "horn_on"
          ∷ flag "radio_on"
          ∷ flag "pump_on"
          ∷ flag "heat_on"
          ∷ flag "door_open"
          ∷ flag "tamper"
          ∷ [])
          ∷ (scalar "switches" "16" ∷ [])
          ∷ (flag "lamp_on" ∷ reserved "3" ∷ typedef "lamp" "Health" ∷ [])
          ∷ [])
          ∷ slot ((scalar "bus_volts" "12"
          ∷ scalar "bus_amps" "12"
          ∷ scalar "charge_amps" "12"
          ∷ scalar "load_amps" "12"
          ∷ scalar "solar_volts" "12"
          ∷ scalar "solar_amps" "12"
          ∷ [])
          ∷ (scalar "bus_volts" "16" ∷ scalar "bus_amps" "16" ∷ [])
          ∷ [])
          ∷ slot ((scalar "set_volts" "12" ∷ scalar "set_amps" "12" ∷ scalar "float_volts" "12" ∷ scalar "equal_volts" "12" ∷ reserved "16" ∷ [])
          ∷ (typedef "mode" "Sea" ∷ [])
          ∷ []
          ∷ [])
          ∷ slot ((size "_payload_" "8" ∷ payload "-" ∷ []) ∷ (size "_payload_" "16" ∷ payload "-" ∷ []) ∷ [] ∷ [])
          ∷ [])
          ∷ frame (packet "Service" "Panel")
          (slot ((scalar "visit" "24" ∷ scalar "keeper" "24" ∷ []) ∷ (scalar "visit" "16" ∷ typedef "role" "Role" ∷ reserved "4" ∷ []) ∷ [])
          ∷ slot ((typedef "before" "Cell" ∷ typedef "after" "Cell" ∷ [])
          ∷ (array "before" "-" "Cell" "-" "2" ∷ array "after" "-" "Cell" "-" "2" ∷ [])
          ∷ [])
          ∷ slot ((scalar "lamp_changed" "1"
          ∷ scalar "lens_cleaned" "1"
          ∷ scalar "oil_filled" "1"
          ∷ scalar "tested" "1"
          ∷ typedef "found" "Health"
          ∷ [])
          ∷ (flag "lamp_changed" ∷ reserved "7" ∷ [])
          ∷ [])
          ∷ slot ((count "parts" "8" ∷ array "parts" "32" "-" "-" "-" ∷ [])
          ∷ (array "parts" "24" "-" "-" "4" ∷ [])
          ∷ (size "parts" "8" ∷ array "parts" "16" "-" "-" "-" ∷ [])
          ∷ [])
          ∷ slot ((typedef "report" "Report" ∷ []) ∷ [] ∷ [])
          ∷ slot ((scalar "next_day" "9" ∷ scalar "next_month" "4" ∷ scalar "next_year" "7" ∷ reserved "4" ∷ []) ∷ (scalar "next_day" "16" ∷ []) ∷ [])
          ∷ slot ((typedef "crc" "Crc16" ∷ []) ∷ [] ∷ [])
          ∷ [])
          ∷ frame (packet "Station" "Panel")
          (slot ((scalar "id" "32" ∷ []) ∷ (scalar "id" "24" ∷ typedef "role" "Role" ∷ typedef "health" "Health" ∷ []) ∷ [])
          ∷ slot ((typedef "position" "Position" ∷ []) ∷ (scalar "east" "25" ∷ scalar "north" "25" ∷ scalar "fix" "6" ∷ []) ∷ [])
          ∷ slot ((typedef "wind" "Wind" ∷ typedef "gust" "Wind" ∷ []) ∷ (typedef "sea" "Sea" ∷ scalar "swell" "11" ∷ scalar "period" "13" ∷ []) ∷ [])
          ∷ slot ((flag "manned" ∷ flag "fog" ∷ flag "ice" ∷ flag "ship_near" ∷ typedef "lamp_health" "Health" ∷ [])
          ∷ (flag "manned" ∷ flag "fog" ∷ scalar "sight" "14" ∷ [])
          ∷ [])
          ∷ slot ((scalar "lamp_amps" "12" ∷ scalar "lamp_volts" "12" ∷ scalar "lamp_hours" "24" ∷ [])
          ∷ (scalar "lamp_amps" "10" ∷ scalar "lamp_volts" "22" ∷ reserved "8" ∷ [])
          ∷ [])
          ∷ slot ((scalar "spare_amps" "12" ∷ scalar "spare_volts" "12" ∷ scalar "spare_hours" "16" ∷ []) ∷ [] ∷ [])
          ∷ slot ((scalar "mains_volts" "16" ∷ scalar "mains_hertz" "16" ∷ scalar "mains_losses" "8" ∷ []) ∷ (flag "mains" ∷ reserved "7" ∷ []) ∷ [])
          ∷ slot ((typedef "cell" "Cell" ∷ typedef "next_cell" "Cell" ∷ [])
          ∷ (array "cells" "-" "Cell" "-" "4" ∷ [])
          ∷ (count "cells" "8" ∷ array "cells" "-" "Cell" "-" "-" ∷ [])
          ∷ [])
          ∷ slot ((typedef "power" "Health"
          ∷ typedef "radio" "Health"
          ∷ typedef "pump" "Health"
          ∷ typedef "door" "Health"
          ∷ typedef "horn_health" "Health"
          ∷ typedef "turret" "Health"
          ∷ [])
          ∷ (typedef "power" "Health" ∷ typedef "radio" "Health" ∷ [])
          ∷ [])
          ∷ slot ((scalar "room_heat" "10" ∷ scalar "lamp_heat" "10" ∷ scalar "damp" "4" ∷ scalar "pressure" "16" ∷ [])
          ∷ (scalar "room_heat" "12" ∷ reserved "4" ∷ [])
          ∷ [])
          ∷ slot ((scalar "uptime" "32" ∷ scalar "restarts" "8" ∷ fixed "8" "0" ∷ []) ∷ (scalar "uptime" "17" ∷ scalar "restarts" "7" ∷ []) ∷ [])
          ∷ slot ((optional_scalar "horn" "16" "fog" "1" ∷ optional_scalar "pause" "8" "fog" "1" ∷ [])
          ∷ (optional_typedef "sounder" "Wind" "fog" "1" ∷ [])
          ∷ [])
          ∷ slot ((optional_typedef "crew" "Berth" "manned" "1" ∷ optional_typedef "cook" "Berth" "manned" "1" ∷ [])
          ∷ (optional_scalar "crew" "8" "manned" "1" ∷ [])
          ∷ []
          ∷ [])
          ∷ slot ((count "berths" "8" ∷ array "berths" "-" "Berth" "-" "-" ∷ []) ∷ (array "berths" "-" "Berth" "-" "2" ∷ []) ∷ [])
          ∷ slot ((array "tides" "16" "-" "-" "24" ∷ []) ∷ (size "tides" "8" ∷ array "tides" "16" "-" "-" "-" ∷ padding "64" ∷ []) ∷ [])
          ∷ slot ((scalar "fuel" "14" ∷ scalar "oil" "14" ∷ scalar "water" "14" ∷ scalar "stores" "14" ∷ reserved "8" ∷ [])
          ∷ (scalar "fuel" "16" ∷ [])
          ∷ [])
          ∷ slot ((scalar "boats" "8" ∷ scalar "rafts" "8" ∷ []) ∷ [] ∷ [])
          ∷ slot ((typedef "report" "Report" ∷ [])
          ∷ (count "reports" "8" ∷ array "reports" "-" "Report" "-" "-" ∷ [])
          ∷ (array "remarks" "-" "Remark" "-" "3" ∷ [])
          ∷ []
          ∷ [])
          ∷ slot ([]
          ∷ []
          ∷ (typedef "crc" "Crc16" ∷ [])
          ∷ (payload "-" ∷ typedef "crc" "Crc16" ∷ [])
          ∷ (size "_payload_" "16" ∷ payload "-" ∷ [])
          ∷ (payload "-" ∷ array "tail" "-" "Remark" "-" "1" ∷ [])
          ∷ (scalar "leap" "40" ∷ scalar "skew" "32" ∷ [])
          ∷ (scalar "idle" "4" ∷ [])
          ∷ [])
          ∷ [])
          ∷ [];
    }

-- many small declarations
unfoldable pub harbour : Family
harbour =
    record {
      targets = "Notice" ∷ "Notice" ∷ "Call" ∷ "Light" ∷ "Route" ∷ [];
      types =
          group (enum "Kind" "8" "0" "0") []
          ∷ group (enum "Side" "1" "0" "1") []
          ∷ group (enum "Tide" "3" "1" "0") []
          ∷ group (enum "Flagged" "16" "0" "0") []
          ∷ group (custom "Place" "48") []
          ∷ group (checksum_type "Parity" "8") []
          ∷ group (struct "Time" "-") (scalar "hour" "5" ∷ scalar "minute" "6" ∷ scalar "second" "6" ∷ reserved "7" ∷ [])
          ∷ group (struct "Light" "-") (scalar "colour" "4" ∷ typedef "side" "Side" ∷ reserved "3" ∷ [])
          ∷ group (struct "Mark" "-") (typedef "place" "Place" ∷ typedef "light" "Light" ∷ [])
          ∷ group (struct "Depth" "-") (scalar "metres" "8" ∷ scalar "tenths" "4" ∷ typedef "tide" "Tide" ∷ flag "sounded" ∷ [])
          ∷ group (struct "Ship" "-") (scalar "number" "30" ∷ typedef "side" "Side" ∷ flag "pilot" ∷ typedef "flagged" "Flagged" ∷ [])
          ∷ group (struct "Line" "-") (scalar "length" "8" ∷ array "marks" "-" "Mark" "-" "2" ∷ [])
          ∷ group (struct "Free" "-") (count "words" "8" ∷ array "words" "8" "-" "-" "-" ∷ [])
          ∷ [];
      frames =
          frame (packet "Call" "-")
          (slot ((typedef "kind" "Kind" ∷ []) ∷ (fixedenum "Kind" "CALL" ∷ []) ∷ (scalar "kind" "8" ∷ []) ∷ [])
          ∷ slot ((typedef "at" "Time" ∷ []) ∷ (scalar "at" "24" ∷ []) ∷ [])
          ∷ [])
          ∷ frame (struct "Route" "-")
          (slot ((array "marks" "-" "Mark" "-" "3" ∷ [])
          ∷ (count "marks" "8" ∷ array "marks" "-" "Mark" "-" "-" ∷ [])
          ∷ (typedef "line" "Line" ∷ [])
          ∷ [])
          ∷ slot ([] ∷ (typedef "depth" "Depth" ∷ []) ∷ (array "depths" "-" "Depth" "-" "5" ∷ []) ∷ [])
          ∷ [])
          ∷ frame (packet "Notice" "Call")
          (slot ((typedef "ship" "Ship" ∷ []) ∷ (typedef "ship" "Ship" ∷ typedef "tug" "Ship" ∷ []) ∷ (typedef "mark" "Mark" ∷ []) ∷ [])
          ∷ slot ((typedef "depth" "Depth" ∷ []) ∷ (scalar "draught" "9" ∷ reserved "7" ∷ []) ∷ [] ∷ [])
          ∷ slot ([]
          ∷ (count "lines" "8" ∷ array "lines" "-" "Line" "-" "-" ∷ [])
          ∷ (array "lights" "-" "Light" "-" "4" ∷ [])
          ∷ (size "ships" "8" ∷ array "ships" "-" "Ship" "-" "-" ∷ [])
          ∷ [])
          ∷ slot ([]
          ∷ (typedef "note" "Free" ∷ [])
          ∷ (array "notes" "-" "Free" "-" "2" ∷ [])
          ∷ (count "notes" "8" ∷ array "notes" "-" "Free" "-" "-" ∷ [])
          ∷ (elemsize "notes" "8" ∷ array "notes" "-" "Free" "-" "-" ∷ [])
          ∷ (typedef "side" "Side" ∷ typedef "note" "Free" ∷ [])
          ∷ [])
          ∷ slot ([] ∷ [] ∷ (typedef "parity" "Parity" ∷ []) ∷ (body ∷ []) ∷ (payload "-" ∷ []) ∷ (scalar "gap" "2" ∷ typedef "tide" "Tide" ∷ []) ∷ [])
          ∷ [])
          ∷ [];
    }

unfoldable pub families : List Family
families = beacon ∷ lamp ∷ status ∷ log ∷ relay ∷ meter ∷ station ∷ harbour ∷ []
