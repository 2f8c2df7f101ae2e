mod Three
