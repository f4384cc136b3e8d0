mod OneLine
mod SoFar
