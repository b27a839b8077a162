-- The words that begin a statement, and those that begin a function.
use Rattle.std.specs.Prelude.{ℕ, List, codes}
use Rattle.setup_statements.specs.declared.keywords.Keyword.{Keyword}
use Rattle.setup_statements.specs.declared.keywords.Keyword.TheVariants as keyword
use Rattle.setup_statements.specs.declared.keywords.FunctionWord.{FunctionWord}
use Rattle.setup_statements.specs.declared.keywords.FunctionWord.TheVariants as function

-- the first word of a statement
abbrev pub keyword_text : Keyword → List ℕ
keyword_text keyword.Local = codes "local"
keyword_text keyword.Target = codes "target"
keyword_text keyword.Peer = codes "peer"
keyword_text keyword.Forwarder = codes "forwarder"
keyword_text keyword.Ingress = codes "ingress"
keyword_text keyword.Instance = codes "instance"
keyword_text keyword.Rule = codes "rule"

-- the first word of a function
abbrev pub function_word_text : FunctionWord → List ℕ
function_word_text function.Pass = codes "pass"
function_word_text function.Firewall = codes "firewall"
function_word_text function.Remark = codes "remark"
function_word_text function.Nat = codes "nat"
function_word_text function.HopLimit = codes "hoplimit"
function_word_text function.PushVlan = codes "push-vlan"
function_word_text function.PopVlan = codes "pop-vlan"
function_word_text function.Stamp = codes "stamp"
function_word_text function.RequireMeta = codes "require-meta"
function_word_text function.ClearMeta = codes "clear-meta"
