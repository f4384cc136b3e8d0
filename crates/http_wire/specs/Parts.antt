-- What the spans of a head's parts cover.
use Rattle.std.specs.Prelude.{ℕ, List, map, take}
use Rattle.httparse.specs.Spans.{span_bytes, header_bytes}
use Rattle.httparse.specs.declared.spans.HeaderSpan.{HeaderSpan}
use Rattle.httparse.specs.declared.spans.RequestSpans.{RequestSpans}
use Rattle.http_model.specs.declared.head.Head.{Head}

-- the head that the spans cover
abbrev pub parts_at : List ℕ → List HeaderSpan → RequestSpans → Head
parts_at front headers r =
    record {
      method = span_bytes front r.method;
      target = span_bytes front r.path;
      minor = r.version;
      headers = map (header_bytes front) (take r.headers headers);
    }
