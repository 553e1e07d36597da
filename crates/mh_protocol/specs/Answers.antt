-- What is said to an editor. The members of an object stand in the order of their names.
use Rattle.std.specs.Prelude.{ℕ, ℤ, negsuc, List, codes}
use Rattle.serde_json.specs.Data.{Data, number, string, object, unsigned, negative, no_members, member}
use Rattle.mh_protocol.specs.declared.told.Fault.{Fault}
use Rattle.mh_protocol.specs.declared.told.Fault.TheVariants as fault
use Rattle.mh_protocol.specs.declared.edit.Range.{Range}
use Rattle.mh_protocol.specs.declared.position.Position.{Position}

-- the numbers of the protocol, which are below zero: -32700 and so on
abbrev pub fault_number : Fault → ℤ
fault_number fault.Parse = negsuc 32699
fault_number fault.NoRequest = negsuc 32599
fault_number fault.MethodNotFound = negsuc 32600
fault_number fault.Params = negsuc 32601
fault_number fault.NotInitialized = negsuc 32001
fault_number fault.Failed = negsuc 32802

unfoldable pub answer_data : Data → Data → Data
answer_data id result_data = object (member (codes "id") id (member (codes "jsonrpc") (string (codes "2.0")) (member (codes "result") result_data no_members)))

unfoldable pub error_data : Fault → List ℕ → Data
error_data f message = object (member (codes "code") (number (negative (fault_number f))) (member (codes "message") (string message) no_members))

unfoldable pub refusal_data : Data → Fault → List ℕ → Data
refusal_data id f message = object (member (codes "error") (error_data f message) (member (codes "id") id (member (codes "jsonrpc") (string (codes "2.0")) no_members)))

unfoldable pub notice_data : List ℕ → Data → Data
notice_data method params = object (member (codes "jsonrpc") (string (codes "2.0")) (member (codes "method") (string method) (member (codes "params") params no_members)))

unfoldable pub position_data : Position → Data
position_data p = object (member (codes "character") (number (unsigned p.character)) (member (codes "line") (number (unsigned p.line)) no_members))

unfoldable pub range_data : Range → Data
range_data r = object (member (codes "end") (position_data r.end) (member (codes "start") (position_data r.start) no_members))
