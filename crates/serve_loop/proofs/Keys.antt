-- What is written has a key: the path of an object names one of a byte at least.
use Rattle.std.proofs.Common.{◌≡◌, ℕ, ◌≤◌, List, [], ◌∷◌, Option, Some, None, Bool, true, false, length, if◌then◌else◌, Result, Ok, Err, refl, sym, subst, arith}
use Rattle.std.specs.List.{before_first, after_first}
use Rattle.percent_encoding.specs.Percent.{percent_decode}
use Rattle.flow_model.specs.declared.order.Order.{Order}
use Rattle.flow_model.specs.declared.order.Order.TheVariants as order
use Rattle.store_model.specs.Acts.{HasKey}
use Rattle.http_model.specs.declared.head.Head.{Head}
use Rattle.s3_model.specs.declared.ask.Ask.{Ask}
use Rattle.s3_model.specs.declared.ask.Ask.TheVariants as ask
use Rattle.s3_model.specs.declared.page.After.{After}
use Rattle.s3_model.specs.declared.fault.S3Fault.{S3Fault}
use Rattle.s3_model.specs.declared.place.Place.{Place}
use Rattle.s3_model.specs.declared.place.Place.TheVariants.{Root, Bucket, Object}
use Rattle.s3_model.specs.Words.{is_empty, header, first_named}
use Rattle.s3_model.specs.Headers.{has_refused_header}
use Rattle.s3_model.specs.Lists.{list_with, list_of, is_list, max_of, url_of, after_of}
use Rattle.s3_model.specs.Targets.{is_slash, place_in, place_past_slash, place_of, path_of, parameters_of, query_of, is_bad_target}
use Rattle.s3_model.specs.Asks.{is_method, write_of, object_ask, bucket_ask, operation, operation_of, length_refusal, if_served, asked_of}
use Rattle.s3_model.specs.Sources.{source_of}
use Rattle.std.specs.Prelude.{⊤, codes, drop, option_map, ◌&&◌}
use Rattle.s3_model.specs.declared.fault.Code.TheVariants.{InvalidRequest, NotImplemented, AccessDenied}
use Rattle.s3_model.specs.Faults.{fault_of, head_fault_of}
use Rattle.layout_text.specs.declared.keys.Access.{Access}
use Rattle.serve_model.specs.declared.admitted.Admitted.{Admitted}
use Rattle.serve_model.specs.declared.admitted.Signer.{Signer}
use Rattle.serve_model.specs.Keys.{may}
use Rattle.serve_model.specs.Admitting.{unless_long, if_signed, if_asked, signer, admitted}
use Rattle.serve_model.specs.Clusters.{IsWhole}
use Rattle.serve_model.specs.Judging.{IsKeyed, order_of}
use Rattle.serve_loop.specs.Giving.{IsGetOf, IsNoGet, range_of}

-- ---- an order has the key of its ask

abbrev pub OrderKeyed : Option Order → Type 0
OrderKeyed None = ⊤
OrderKeyed (Some o) = HasKey o

copy_keyed : (bucket key : List ℕ) (headers : Option (List (List ℕ × List ℕ))) (source : Option (List ℕ × List ℕ)) → 1 ≤ length key → OrderKeyed (option_map (λ (s : List ℕ × List ℕ). order.Copy s.0 s.1 bucket key headers) source)
copy_keyed bucket key headers None k = tt
copy_keyed bucket key headers (Some s) k = k

orders_keyed : (a : Ask) (body : List ℕ) → IsKeyed a → OrderKeyed (order_of a body)
orders_keyed ask.ListBuckets body k = tt
orders_keyed (ask.HeadBucket bucket) body k = tt
orders_keyed (ask.List bucket list delimiter url token start) body k = tt
orders_keyed (ask.BadList bucket) body k = tt
orders_keyed (ask.Get bucket key range) body k = tt
orders_keyed (ask.Head bucket key range) body k = tt
orders_keyed (ask.Delete bucket key) body k = k
orders_keyed (ask.Put bucket key size md5 headers) body k = k
orders_keyed (ask.Copy from bucket key headers) body k = copy_keyed bucket key headers (source_of from) k

pub order_keyed : (a : Ask) (body : List ℕ) (o : Order) → IsKeyed a → Some o ≡ order_of a body → HasKey o
order_keyed a body o k e = subst OrderKeyed (sym e) (orders_keyed a body k)

-- ---- and it is whole: no ask's bytes are still to come

abbrev pub OrderWhole : Option Order → Type 0
OrderWhole None = ⊤
OrderWhole (Some o) = IsWhole o

copy_whole : (bucket key : List ℕ) (headers : Option (List (List ℕ × List ℕ))) (source : Option (List ℕ × List ℕ)) → OrderWhole (option_map (λ (s : List ℕ × List ℕ). order.Copy s.0 s.1 bucket key headers) source)
copy_whole bucket key headers None = tt
copy_whole bucket key headers (Some s) = tt

orders_whole : (a : Ask) (body : List ℕ) → OrderWhole (order_of a body)
orders_whole ask.ListBuckets body = tt
orders_whole (ask.HeadBucket bucket) body = tt
orders_whole (ask.List bucket list delimiter url token start) body = tt
orders_whole (ask.BadList bucket) body = tt
orders_whole (ask.Get bucket key range) body = tt
orders_whole (ask.Head bucket key range) body = tt
orders_whole (ask.Delete bucket key) body = tt
orders_whole (ask.Put bucket key size md5 headers) body = tt
orders_whole (ask.Copy from bucket key headers) body = copy_whole bucket key headers (source_of from)

pub order_whole : (a : Ask) (body : List ℕ) (o : Order) → Some o ≡ order_of a body → IsWhole o
order_whole a body o e = subst OrderWhole (sym e) (orders_whole a body)

-- ---- which asks are gets

none_is_no_get : (bucket key : List ℕ) → Some (order.Get bucket key) ≡ None → ⊥
none_is_no_get bucket key e = cc

copy_is_no_get : (bucket key b k : List ℕ) (headers : Option (List (List ℕ × List ℕ))) (source : Option (List ℕ × List ℕ)) → Some (order.Get b k) ≡ option_map (λ (s : List ℕ × List ℕ). order.Copy s.0 s.1 bucket key headers) source → ⊥
copy_is_no_get bucket key b k headers None e = none_is_no_get b k e
copy_is_no_get bucket key b k headers (Some s) e = cc

-- where a get is asked of the store, a get was asked
pub get_asked : (a : Ask) (body bucket key : List ℕ) → Some (order.Get bucket key) ≡ order_of a body → IsGetOf (range_of a) a
get_asked (ask.Get b k range) body bucket key e = (b, k, refl)
get_asked ask.ListBuckets body bucket key e = absurd (none_is_no_get bucket key e)
get_asked (ask.HeadBucket b) body bucket key e = absurd (none_is_no_get bucket key e)
get_asked (ask.List b list delimiter url token start) body bucket key e = cc
get_asked (ask.BadList b) body bucket key e = absurd (none_is_no_get bucket key e)
get_asked (ask.Head b k range) body bucket key e = cc
get_asked (ask.Delete b k) body bucket key e = cc
get_asked (ask.Put b k size md5 headers) body bucket key e = cc
get_asked (ask.Copy from b k headers) body bucket key e = absurd (copy_is_no_get b k bucket key headers (source_of from) e)

same_order : (o p : Order) → Some o ≡ Some p → o ≡ p
same_order o p e = cc

-- and where another order is, none was
pub no_get_asked : (a : Ask) (body : List ℕ) (o : Order) → ((bucket key : List ℕ) → o ≡ order.Get bucket key → ⊥) → Some o ≡ order_of a body → IsNoGet a
no_get_asked (ask.Get b k range) body o other e = absurd (other b k (same_order o (order.Get b k) e))
no_get_asked ask.ListBuckets body o other e = tt
no_get_asked (ask.HeadBucket b) body o other e = tt
no_get_asked (ask.List b list delimiter url token start) body o other e = tt
no_get_asked (ask.BadList b) body o other e = tt
no_get_asked (ask.Head b k range) body o other e = tt
no_get_asked (ask.Delete b k) body o other e = tt
no_get_asked (ask.Put b k size md5 headers) body o other e = tt
no_get_asked (ask.Copy from b k headers) body o other e = tt

-- ---- an ask has the key of its path

abbrev AskKeyed : Option Ask → Type 0
AskKeyed None = ⊤
AskKeyed (Some a) = IsKeyed a

abbrev ResultKeyed : Result Ask S3Fault → Type 0
ResultKeyed (Ok a) = IsKeyed a
ResultKeyed (Err fault) = ⊤

abbrev PlaceKeyed : Place → Type 0
PlaceKeyed Root = ⊤
PlaceKeyed (Bucket bucket) = ⊤
PlaceKeyed (Object bucket key) = 1 ≤ length key

either : (b : Bool) (x y : Option Ask) → AskKeyed x → AskKeyed y → AskKeyed (if b then x else y)
either true x y h k = h
either false x y h k = k

either_result : (b : Bool) (x y : Result Ask S3Fault) → ResultKeyed x → ResultKeyed y → ResultKeyed (if b then x else y)
either_result true x y h k = h
either_result false x y h k = k

either_long : (b : Bool) (x y : ℕ) (xs ys : List ℕ) → 1 ≤ length (if b then x ∷ xs else y ∷ ys)
either_long true x y xs ys = omega arith
either_long false x y xs ys = omega arith

decoded_long : (b : ℕ) (bs : List ℕ) → 1 ≤ length (percent_decode (b ∷ bs))
unfolding percent_decode
decoded_long b [] = omega arith
decoded_long b (c ∷ []) = omega arith
decoded_long b (high ∷ low ∷ rest) = either_long _ _ _ _ _

place_in_keyed : (bucket key : List ℕ) → PlaceKeyed (place_in bucket key)
place_in_keyed bucket [] = tt
place_in_keyed bucket (b ∷ bs) = decoded_long b bs

past_slash_keyed : (path : List ℕ) → PlaceKeyed (place_past_slash path)
past_slash_keyed [] = tt
past_slash_keyed (b ∷ bs) = place_in_keyed (before_first is_slash (b ∷ bs)) (after_first is_slash (b ∷ bs))

write_keyed : (head : Head) (bucket key : List ℕ) (source : Option (List ℕ)) → 1 ≤ length key → IsKeyed (write_of head bucket key source)
write_keyed head bucket key None k = k
write_keyed head bucket key (Some from) k = k

object_keyed : (head : Head) (bucket key : List ℕ) → 1 ≤ length key → AskKeyed (object_ask head bucket key)
object_keyed head bucket key k =
    either (is_method head (codes "GET")) _ _ tt
    (either (is_method head (codes "HEAD")) _ _ tt
    (either (is_method head (codes "DELETE")) _ _ k
    (either (is_method head (codes "PUT")) _ _ (write_keyed head bucket key (header head.headers (codes "x-amz-copy-source")) k) tt)))

list_keyed : (bucket : List ℕ) (parameters : List (List ℕ × List ℕ)) (most : Option ℕ) (url : Option Bool) (after : Option After) → IsKeyed (list_with bucket parameters most url after)
list_keyed bucket parameters None url after = tt
list_keyed bucket parameters (Some most) None after = tt
list_keyed bucket parameters (Some most) (Some url) None = tt
list_keyed bucket parameters (Some most) (Some url) (Some after) = tt

bucket_keyed : (head : Head) (bucket : List ℕ) (parameters : List (List ℕ × List ℕ)) → AskKeyed (bucket_ask head bucket parameters)
bucket_keyed head bucket parameters =
    let listed = list_of bucket parameters in
    either (is_method head (codes "HEAD") && is_empty parameters) (Some (ask.HeadBucket bucket)) (if is_method head (codes "GET") && is_list parameters then Some listed else None) tt
    (either (is_method head (codes "GET") && is_list parameters) (Some listed) None
    (list_keyed bucket parameters (max_of (first_named parameters (codes "max-keys"))) (url_of (first_named parameters (codes "encoding-type"))) (after_of (first_named parameters (codes "continuation-token")) (first_named parameters (codes "start-after")))) tt)

operation_keyed : (head : Head) (place : Place) (parameters : List (List ℕ × List ℕ)) → PlaceKeyed place → AskKeyed (operation head place parameters)
operation_keyed head Root parameters k = either (is_method head (codes "GET") && is_empty parameters) (Some ask.ListBuckets) None tt tt
operation_keyed head (Bucket bucket) parameters k = bucket_keyed head bucket parameters
operation_keyed head (Object bucket key) parameters k = either (is_empty parameters) (object_ask head bucket key) None (object_keyed head bucket key k) tt

served_keyed : (head : Head) (o : Option Ask) → AskKeyed o → ResultKeyed (if_served head o)
served_keyed head None k = tt
served_keyed head (Some a) k = either_result (has_refused_header head.headers) (Err (fault_of NotImplemented)) (Ok a) tt k

asked_keyed : (head : Head) → ResultKeyed (asked_of head)
asked_keyed head = either_result (is_bad_target head.target) (Err (fault_of InvalidRequest)) (if_served head (operation_of head)) tt (served_keyed head (operation_of head) (operation_keyed head (place_of (path_of head.target)) (parameters_of (query_of head.target)) (past_slash_keyed (drop 1 (path_of head.target)))))

-- ---- what is admitted has the key of its ask

abbrev AdmittedKeyed : Result Admitted S3Fault → Type 0
AdmittedKeyed (Ok a) = IsKeyed a.ask
AdmittedKeyed (Err fault) = ⊤

either_admitted : (b : Bool) (x y : Result Admitted S3Fault) → AdmittedKeyed x → AdmittedKeyed y → AdmittedKeyed (if b then x else y)
either_admitted true x y h k = h
either_admitted false x y h k = k

unless_keyed : (a : Admitted) (fault : Option S3Fault) → IsKeyed a.ask → AdmittedKeyed (unless_long a fault)
unless_keyed a None k = k
unless_keyed a (Some fault) k = tt

signed_keyed : (access : Access) (head : Head) (a : Ask) (s : Result Signer S3Fault) → IsKeyed a → AdmittedKeyed (if_signed access head a s)
signed_keyed access head a (Ok s) k =
    let it : Admitted = record { ask = a; who = s.who; digest = s.digest } in
    either_admitted (may access s.who a) (unless_long it (length_refusal head a)) (Err (head_fault_of AccessDenied)) (unless_keyed it (length_refusal head a) k) tt
signed_keyed access head a (Err fault) k = tt

if_asked_keyed : (access : Access) (now : ℕ) (head : Head) (r : Result Ask S3Fault) → ResultKeyed r → AdmittedKeyed (if_asked access now head r)
if_asked_keyed access now head (Ok a) k = signed_keyed access head a (signer access now head) k
if_asked_keyed access now head (Err fault) k = tt

pub admitted_keyed : (access : Access) (now : ℕ) (head : Head) (a : Admitted) → admitted access now head ≡ Ok a → IsKeyed a.ask
admitted_keyed access now head a e = subst AdmittedKeyed e (if_asked_keyed access now head (asked_of head) (asked_keyed head))
