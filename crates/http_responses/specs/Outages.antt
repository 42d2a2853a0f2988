-- own: the responses of outages, byte for byte.
use Rattle.std.specs.Prelude.{ℕ, List, ◌++◌, codes}
use Rattle.http_responses.specs.declared.outage.Outage.{Outage}
use Rattle.http_responses.specs.declared.outage.Outage.TheVariants.{NoMemory, NotADesk, Reopen, Store}

-- a response of status 503, whose body has this many bytes
abbrev pub unavailable_text : (size body : List ℕ) → List ℕ
unavailable_text size body =
    codes "HTTP/1.1 503 Service Unavailable\r\nContent-Type: application/json\r\nContent-Length: "
    ++ size ++ codes "\r\nConnection: close\r\n\r\n" ++ body

-- the response of an outage, in full
unfoldable pub outage_text : Outage → List ℕ
outage_text NoMemory =
    unavailable_text (codes "32") (codes "{\"name\":\"NoMemory\",\"refused\":40}")
outage_text Store = unavailable_text (codes "29") (codes "{\"name\":\"Store\",\"refused\":41}")
outage_text Reopen = unavailable_text (codes "30") (codes "{\"name\":\"Reopen\",\"refused\":42}")
outage_text NotADesk =
    unavailable_text (codes "32") (codes "{\"name\":\"NotADesk\",\"refused\":43}")
